-- `book::records_ok` meets its contract.
use mathlib.Core.Path.{refl, ◌∙◌}
use native.Mathlib.Nat.{sub-zero}
use borrow.Author.Rules.{rules}
use Rattle.std.proofs.lemmas.Iterator.{YieldsList-from_range}
use Rattle.std.proofs.lemmas.Iterator.Search.{all_from_yields_List}
use Rattle.big_endian.proofs.Walk.{all-range}
use Rattle.book.specs.Accepts.{is_record_at}
use Rattle.book.proofs.records_ok.Goals as goal

pub returns : goal.returns
returns c =
    all_from_yields_List (is_record_at c.args.book.now) _ _ _ c.all.ensures.ran (YieldsList-from_range 0 c.args.n c.args.n refl (sub-zero c.args.n)) (λ x b q k. search rules)
    ∙ all-range (is_record_at c.args.book.now) 0 c.args.n
