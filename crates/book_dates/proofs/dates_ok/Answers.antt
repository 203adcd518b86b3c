-- `book_dates::dates_ok` meets its contract.
use mathlib.Core.Path.{refl, ◌∙◌}
use Prim.Native.Nat.{◌+◌, ◌*◌}
use native.Mathlib.Nat.{sub-zero}
use borrow.Author.Rules.{rules}
use Rattle.std.proofs.lemmas.Iterator.{YieldsList-from_range}
use Rattle.std.proofs.lemmas.Iterator.Search.{all_from_yields_List}
use Rattle.book_dates.specs.Days.{is_day}
use Rattle.book_dates.proofs.Reading.{days-says}
use Rattle.book_dates.proofs.Dates.{days-all}
use Rattle.book_dates.proofs.dates_ok.Goals as goal

pub returns : goal.returns
returns c =
    days-says c.args.l.now c.args.p c.args.n c.requires
    (all_from_yields_List (λ i. is_day c.args.l.now (c.args.p + 4 * i)) _ _ _ c.all.ensures.ran (YieldsList-from_range 0 c.args.n c.args.n refl (sub-zero c.args.n)) (λ x b q k. search rules)
    ∙ days-all c.args.l.now c.args.p c.args.n)
