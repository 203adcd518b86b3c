-- `schedule::build_and_move` meets its contract.
use mir.Facts.{to_z-of_z}
use Rattle.schedule.proofs.Replies.{not-built, when-built}
use Rattle.model.specs.Calls.{move_call}
use Rattle.walk_distance.specs.Distances.{way_of}
use Rattle.schedule.proofs.build_and_move.Goals as goal

pub returns-in-Err : goal.returns-in-Err
returns-in-Err c = not-built _ _ (λ s. move_call (way_of c.args.back) s _ _ _ _) c.in-Err.ensures

pub move_in-requires : goal.move_in-requires
move_in-requires c = c.in-Ok.ensures.fits

pub returns-in-Ok : goal.returns-in-Ok
returns-in-Ok c = when-built _ _ (λ s. move_call (way_of c.args.back) s _ _ _ _) c.in-Ok.ensures (rw (to_z-of_z c.ranges.t_sec, to_z-of_z c.ranges.t_ns, to_z-of_z c.ranges.d_sec, to_z-of_z c.ranges.d_ns) at c.move_in.ensures)
