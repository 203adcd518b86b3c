-- `civil::precedes` meets its contract.
use mir.Facts.{to_z-of_z}
use Rattle.laws_calendar.specs.Numbers.{before-is}
use Rattle.civil.proofs.precedes.Goals as goal

pub returns : goal.returns
returns c = rw (to_z-of_z c.ranges.a, to_z-of_z c.ranges.b) (before-is c.requires.0 c.requires.1)
