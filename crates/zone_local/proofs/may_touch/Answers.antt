-- `zone_local::may_touch` meets its contract. Assumes nothing.
use Rattle.civil.specs.Dates.{time_in}
use Rattle.zone_local.proofs.Facts.{day-number, till-small}
use Rattle.laws_calendar.specs.Numbers.{day-bits}
use mir.Facts.{to_z-of_z}
use native.Mathlib.Omega.{arith}
use Rattle.zone_local.proofs.may_touch.Goals as goal

pub midnight-base-requires : goal.midnight-base-requires
midnight-base-requires c = rw (to_z-of_z c.ranges.day) (day-number c.requires.is-day)

pub overflow_add-result-then-base-from : goal.overflow_add-result-then-base-from
overflow_add-result-then-base-from c = omega (arith, c.midnight-base.ensures, day-bits c.ranges.day, c.requires.is-day.high, c.till_second.ensures, till-small (time_in c.args.from) _ _ c.requires.to-fits.seconds c.requires.to-fits.nanos)
