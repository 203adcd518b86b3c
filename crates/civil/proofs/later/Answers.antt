-- `civil::later` meets its contract.
use mathlib.Core.Path.{◌∙◌}
use native.Mathlib.Omega.{arith}
use mir.Syntax.{w32}
use mir.Facts.{to_z-of_z, to_z_pos}
use Rattle.laws_calendar.specs.Numbers.{add_is, number_fits}
use Rattle.civil.proofs.later.Goals as goal

pub overflow_add-result : goal.overflow_add-result
overflow_add-result c = rw (to_z-of_z c.ranges.day, to_z_pos w32 {n = c.args.n} (omega arith), add_is c.requires.0) (number_fits _ c.requires.1)

pub returns : goal.returns
returns c = to_z-of_z (overflow_add-result c) ∙ rw (to_z-of_z c.ranges.day, to_z_pos w32 {n = c.args.n} (omega arith)) (add_is c.requires.0 _)
