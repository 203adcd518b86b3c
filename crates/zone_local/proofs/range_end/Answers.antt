-- `zone_local::range_end` meets its contract. Assumes nothing.
use mathlib.Core.Path.{refl}
use native.Mathlib.Omega.{arith}
use mir.Facts.{to_z-of_z}
use Rattle.model.specs.DayNumber.{signed_day, day_of}
use Rattle.laws_calendar.specs.Numbers.{day-bits, told-before, told-not}
use Rattle.zone_local.proofs.Facts.{end-early, end-late, year-zero}
use Rattle.zone_local.proofs.range_end.Goals as goal

pub precedes-requires : goal.precedes-requires
unfolding signed_day day_of
precedes-requires c = rw (to_z-of_z c.ranges.day) (c.requires, record { back = refl; small = omega arith })

pub returns-then-precedes : goal.returns-then-precedes
returns-then-precedes c = (end-early _ (omega (arith, year-zero, day-bits c.ranges.day, told-before _ _ c.precedes.ensures c.if-precedes.true)), record { low = omega arith; high = omega arith; ns = omega arith })

pub returns : goal.returns
returns c = (end-late _ (omega (arith, year-zero, day-bits c.ranges.day, told-not _ _ c.precedes.ensures c.if-precedes.false)), record { low = omega arith; high = omega arith; ns = omega arith })
