-- `civil::days_from` meets its contract.
use native.Mathlib.Omega.{arith}
use mir.Syntax.{w32}
use mir.Facts.{to_z-of_z, to_z_pos}
use Prim.Native.Nat.{◌-◌}
use Rattle.model.specs.DayNumber.{day_of}
use Rattle.laws_calendar.specs.Numbers.{apart-is}
use Rattle.civil.proofs.days_from.Goals as goal

pub overflow_sub-result : goal.overflow_sub-result
overflow_sub-result c = rw (to_z-of_z c.ranges.a, to_z-of_z c.ranges.b, apart-is c.requires.0 c.requires.1 c.requires.2) (record { sfits = omega (arith, c.requires.1.small) })

pub overflow_cast-result : goal.overflow_cast-result
overflow_cast-result c = rw (to_z-of_z c.ranges.a, to_z-of_z c.ranges.b, apart-is c.requires.0 c.requires.1 c.requires.2, to_z_pos w32 {n = day_of c.args.b - day_of c.args.a} (omega (arith, c.requires.1.small))) (tt, omega (arith, c.requires.1.small))

pub returns : goal.returns
returns c = rw (to_z-of_z c.ranges.a, to_z-of_z c.ranges.b, apart-is c.requires.0 c.requires.1 c.requires.2, to_z_pos w32 {n = day_of c.args.b - day_of c.args.a} (omega (arith, c.requires.1.small)))
