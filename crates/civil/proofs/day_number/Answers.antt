-- `civil::day_number` meets its contract.
use mathlib.Core.Path.{ap, ◌≡◌, ◌∙◌}
use Prim.Native.Nat.{◌+◌, ◌-◌}
use mathlib.Core.Bool.{Bool}
use native.Mathlib.Omega.{arith}
use Rattle.model.specs.Calendar.{day_number, days_before_month, days_before_year}
use Rattle.model.specs.DayNumber.{signed_day}
use Rattle.laws_calendar.specs.Numbers.{bits-number, bits-day, bits_is}
use Rattle.civil.specs.Formulas.{day-below}
use Rattle.civil.proofs.day_number.Goals.{After-days_before_month}
use Rattle.civil.proofs.day_number.Goals as goal

total :
    (c : After-days_before_month) →
    days_before_year c.args.year + (c.days_before_month.result + (c.args.day - 1))
    ≡ day_number c.args.year c.args.month c.args.day
unfolding day_number
total c = omega (arith, ap (λ (l : Bool). days_before_month l c.args.month) c.is_leap.ensures)

pub overflow_add-days_before_month : goal.overflow_add-days_before_month
overflow_add-days_before_month c = omega (arith, total (goal.at.overflow_add-days_before_month c).After-days_before_month, day-below c.requires.0 c.requires.1)

pub later-requires : goal.later-requires
later-requires c =
    let t = total (goal.at.later-requires c).After-days_before_month in
    let b = day-below c.requires.0 c.requires.1 in
    let e = c.year_start.ensures in
    (bits_is e (omega arith), omega (arith, bits-day e (omega arith)))

pub returns : goal.returns
returns c =
    let t = total (goal.at.returns c).After-days_before_month in
    let b = day-below c.requires.0 c.requires.1 in
    bits-number (c.later.ensures ∙ ap signed_day (omega (arith, bits-day c.year_start.ensures (omega arith)))) (omega arith)
