-- `schedule::moved_to` meets its contract.
use mathlib.Core.Path.{refl, ◌∙◌}
use native.Mathlib.Omega.{arith}
use mir.Facts.{to_z-of_z, to_z_pos}
use mir.Syntax.{w64}
use Rattle.instant_signed.specs.InstantLaws.{instant-written}
use Rattle.schedule.proofs.moved_to.Goals as goal

pub at-u-requires : goal.at-u-requires
at-u-requires c = c.requires

pub seconds_of-requires : goal.seconds_of-requires
seconds_of-requires c = let h = c.at-u.ensures.1.high in omega arith

pub returns : goal.returns
returns c = (instant-written c.at-u.result _ c.at-u.ensures.1.ns c.at-u.ensures.0 (to_z-of_z {w = w64} (record { sfits = c.seconds_of.type_inv }) ∙ c.seconds_of.ensures) (to_z_pos w64 (let h = c.at-u.ensures.1.ns in omega arith)), refl)
