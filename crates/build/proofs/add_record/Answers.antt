-- `build::add_record` meets its contract.
use native.Mathlib.Omega.{arith}
use mathlib.Core.Path.{refl}
use Rattle.build.proofs.Adding.{closed-fits, long-closed, adds-closed}
use Rattle.build.proofs.add_record.Goals as goal

pub overflow_mul-s : goal.overflow_mul-s
overflow_mul-s c = omega (arith, (closed-fits _ _ _ c.requires.0 c.if-e-eq-HOLIDAYS.true c.distinct_dates-days.ensures.1).1)

pub overflow_add-s-then-e-eq-HOLIDAYS-2 : goal.overflow_add-s-then-e-eq-HOLIDAYS-2
overflow_add-s-then-e-eq-HOLIDAYS-2 c = omega (arith, (closed-fits _ _ _ c.requires.0 c.if-e-eq-HOLIDAYS.true c.distinct_dates-days.ensures.1).1)

pub returns-then-e-eq-HOLIDAYS : goal.returns-then-e-eq-HOLIDAYS
returns-then-e-eq-HOLIDAYS c = (
  λ p. adds-closed _ p _ _ _ c.requires.0 c.if-e-eq-HOLIDAYS.true c.holidays_of.ensures refl c.requires.1.closed c.distinct_dates-days.ensures.0 c.distinct_dates-days.ensures.1,
  long-closed _ c.requires.1 _ _,
)
