-- `civil::date_in` meets its contract.
use mathlib.Core.Path.{ap}
use native.Mathlib.Omega.{arith}
use Rattle.model.specs.Calendar.{date_in, days_before_month, is_leap}
use Rattle.laws_calendar.specs.Dates.{month-in, leap-few}
use Rattle.civil.proofs.date_in.Goals as goal

pub month_of-month-requires : goal.month_of-month-requires
month_of-month-requires c = rw c.is_leap-leap.ensures c.requires

pub days_before_month-requires : goal.days_before_month-requires
days_before_month-requires c = omega (arith, month-in c.is_leap-leap.result c.args.r (rw c.is_leap-leap.ensures c.requires))

pub overflow_sub-result : goal.overflow_sub-result
overflow_sub-result c = omega (arith, month-in c.is_leap-leap.result c.args.r (rw c.is_leap-leap.ensures c.requires), ap (days_before_month c.is_leap-leap.result) c.month_of-month.ensures)

pub overflow_add-result : goal.overflow_add-result
overflow_add-result c = omega (arith, leap-few (is_leap c.args.year))

pub returns : goal.returns
unfolding date_in
returns c = rw (← c.is_leap-leap.ensures, ← c.month_of-month.ensures, ← c.days_before_month.ensures)
