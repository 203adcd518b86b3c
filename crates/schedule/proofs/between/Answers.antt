-- `schedule::between` meets its contract.
use mir.Facts.{to_z-of_z}
use Rattle.schedule.proofs.Replies.{not-built, when-built}
use Rattle.model.specs.Calls.{between_call}
use Rattle.schedule.proofs.between.Goals as goal

pub returns-in-Err : goal.returns-in-Err
returns-in-Err c = not-built _ _ (λ s. between_call s _ _ _ _) c.in-Err.ensures

pub between_in-requires : goal.between_in-requires
between_in-requires c = c.in-Ok.ensures.fits

pub returns-in-Ok : goal.returns-in-Ok
returns-in-Ok c = when-built _ _ (λ s. between_call s _ _ _ _) c.in-Ok.ensures (rw (to_z-of_z c.ranges.a_sec, to_z-of_z c.ranges.a_ns, to_z-of_z c.ranges.b_sec, to_z-of_z c.ranges.b_ns) at c.between_in.ensures)
