-- `rule::applies` meets its contract. Assumes nothing.
use Rattle.model.specs.Calendar.{contains}
use mathlib.Core.Path.{◌∙◌, ap}
use mir.Facts.{to_z-of_z}
use Rattle.rule.proofs.applies.Goals as goal

pub returns : goal.returns
returns c = c.contains.ensures ∙ ap (contains _) (rw (to_z-of_z c.ranges.day) at c.weekday_of.ensures)
