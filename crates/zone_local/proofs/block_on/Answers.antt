-- `zone_local::block_on` meets its contract.
use mir.Facts.{to_z-of_z}
use Rattle.zone_local.proofs.Facts.{start_is}
use Rattle.zone_local.proofs.block_on.Goals as goal

pub returns : goal.returns
returns c = let f = c.ranges.day in (start_is _ _ _ _ _ (rw (to_z-of_z f) at c.resolve-start.ensures.0), rw (to_z-of_z f) at c.end_of-end.ensures)
