-- `schedule::add` meets its contract: it is `build_and_move` in its way.
use mir.Facts.{to_z-of_z}
use Rattle.schedule.proofs.add.Goals as goal

pub returns : goal.returns
returns c = rw (to_z-of_z c.ranges.t_sec, to_z-of_z c.ranges.t_ns, to_z-of_z c.ranges.d_sec, to_z-of_z c.ranges.d_ns) at c.build_and_move.ensures
