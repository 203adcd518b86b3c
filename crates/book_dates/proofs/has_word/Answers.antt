-- `book_dates::has_word` meets its contract.
use mathlib.Core.Path.{refl, ◌∙◌}
use Prim.Native.Nat.{◌+◌, ◌*◌}
use native.Mathlib.Nat.{sub-zero}
use borrow.Author.Rules.{rules}
use lib.Dec.{eqb}
use Rattle.std.proofs.lemmas.Iterator.{YieldsList-from_range}
use Rattle.std.proofs.lemmas.Iterator.Search.{any_from_yields_List}
use Rattle.big_endian.specs.Be.{be32}
use Rattle.book_dates.proofs.Words.{among-any}
use Rattle.book_dates.proofs.has_word.Goals as goal

pub returns : goal.returns
returns c =
    any_from_yields_List (λ i. eqb c.args.w (be32 c.args.b.now (c.args.p + 4 * i))) _ _ _ c.any.ensures.ran (YieldsList-from_range 0 c.args.n c.args.n refl (sub-zero c.args.n)) (λ x b q k. search rules)
    ∙ among-any c.args.b.now c.args.p c.args.w c.args.n
