-- `schedule::time_answer` meets its contract.
use mathlib.Core.Path.{refl}
use native.Mathlib.Omega.{arith}
use mir.Facts.{to_z-of_z}
use mir.Syntax.{w64}
use Rattle.instant_signed.specs.DurationLaws.{duration-written}
use Rattle.schedule.proofs.time_answer.Goals as goal

pub pair-d-requires : goal.pair-d-requires
pair-d-requires c = let h = c.requires.0 in (omega arith, λ e. omega arith)

pub returns : goal.returns
returns c = (duration-written _ _ _ c.pair-d.result c.requires.1 c.pair-d.ensures (to_z-of_z {w = w64} (record { sfits = c.struct_told-1.given.0.1 })) (to_z-of_z {w = w64} (record { sfits = c.struct_told-1.given.1.0.1 })), refl)
