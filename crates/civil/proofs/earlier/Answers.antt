-- `civil::earlier` meets its contract.
use mathlib.Core.Path.{◌∙◌}
use native.Mathlib.Omega.{arith}
use mir.Syntax.{w32}
use mir.Facts.{to_z-of_z, to_z_pos}
use Rattle.laws_calendar.specs.Numbers.{take-is, number_fits}
use Rattle.civil.proofs.earlier.Goals as goal

pub overflow_cast-result : goal.overflow_cast-result
overflow_cast-result c = record { sfits = omega (arith, c.requires.0.small, c.requires.1) }

pub overflow_sub-result : goal.overflow_sub-result
overflow_sub-result c = rw (to_z-of_z c.ranges.day, to_z_pos w32 {n = c.args.n} (omega (arith, c.requires.0.small, c.requires.1)), take-is c.requires.0 c.args.n c.requires.1) (number_fits _ (omega (arith, c.requires.0.small)))

pub returns : goal.returns
returns c = to_z-of_z (overflow_sub-result c) ∙ rw (to_z-of_z c.ranges.day, to_z_pos w32 {n = c.args.n} (omega (arith, c.requires.0.small, c.requires.1))) (take-is c.requires.0 _ c.requires.1)
