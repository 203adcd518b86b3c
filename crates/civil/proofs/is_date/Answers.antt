-- `civil::is_date` meets its contract.
use Rattle.std.proofs.Common.{◌∙◌, sym, ap, arith, Bool, le-leb}
use Rattle.model.specs.Calendar.{days_in_month}
use Rattle.laws_calendar.specs.Dates.{no-date}
use Rattle.civil.specs.DateLaws.{in-28, in-month}
use Rattle.civil.proofs.is_date.Goals as goal

pub returns-then-year-lt-FIRST_YEAR : goal.returns-then-year-lt-FIRST_YEAR
returns-then-year-lt-FIRST_YEAR c = sym (no-date (λ v. omega (arith, c.then-year-lt-FIRST_YEAR.either)))

pub returns-then-day-le-SHORTEST_MONTH : goal.returns-then-day-le-SHORTEST_MONTH
returns-then-day-le-SHORTEST_MONTH c = le-leb _ _ (omega arith) ∙ in-28 _ _ _ (omega arith) (omega arith) (omega arith) (omega arith) (omega arith) (omega arith)

pub returns-else-day-le-SHORTEST_MONTH : goal.returns-else-day-le-SHORTEST_MONTH
returns-else-day-le-SHORTEST_MONTH c =
    in-month c.args.year c.args.month c.args.day _ (omega arith) (omega arith) (omega arith) (omega arith) (omega arith)
    (c.days_in_month.ensures ∙ ap (λ (l : Bool). days_in_month l c.args.month) c.is_leap.ensures)
