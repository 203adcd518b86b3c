-- `civil::midnight` meets its contract.
use mathlib.Core.Path.{refl}
use native.Mathlib.Omega.{arith}
use mir.Facts.{to_z-of_z}
use Rattle.model.specs.DayNumber.{signed_day, day_of}
use Rattle.laws_calendar.specs.Numbers.{start-day, day-bits}
use Rattle.civil.proofs.midnight.Goals as goal

pub days_from-requires : goal.days_from-requires
unfolding signed_day day_of
days_from-requires c = rw (to_z-of_z c.ranges.day) (record { back = refl; small = omega arith }, c.requires, omega (arith, start-day))

pub returns : goal.returns
returns c = omega (arith, start-day, day-bits c.ranges.day, c.days_from.ensures)
