-- `walk_list_week::seconds` meets its contract. Assumes nothing.
use mir.Syntax.{w64}
use mir.Facts.{to_z-of_z}
use native.Mathlib.Omega.{arith}
use mathlib.Core.Path.{ap, ◌∙◌}
use Rattle.instant_signed.specs.Reads.{seconds_from}
use Rattle.walk_list_week.proofs.seconds.Goals as goal

pub returns : goal.returns
returns c = to_z-of_z {w = w64} (record { sfits = c.seconds_of.type_inv }) ∙ c.seconds_of.ensures ∙ ap seconds_from (omega arith)
