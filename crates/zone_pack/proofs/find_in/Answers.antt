-- `zone_pack::find_in` meets its contract.
use mathlib.Core.Bool.{true, false}
use mathlib.Core.Path.{◌≡◌}
use borrow.Author.Rules.{rules}
use Rattle.std.proofs.lemmas.Iterator.{first_from_Range}
use Rattle.model.specs.Pack.{same_name}
use Rattle.zone_pack.specs.Pack.{named_at}
use Rattle.zone_pack.proofs.Ends.{finds}
use Rattle.zone_pack.proofs.find_in.Goals as goal

pub returns : goal.returns
returns c =
    finds c.args.p.now c.args.name.now c.args.n c.find.result
    (first_from_Range _ _ _ _ (λ i. same_name (named_at c.args.p.now i).name c.args.name.now ≡ true) (λ i. same_name (named_at c.args.p.now i).name c.args.name.now ≡ false) c.find.ensures.ran (λ x q k. search rules) (λ x q k. search rules))
