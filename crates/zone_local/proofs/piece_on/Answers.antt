-- `zone_local::piece_on` meets its contract.
use mir.Facts.{to_z-of_z}
use Rattle.zone_local.proofs.Facts.{piece_is}
use Rattle.zone_local.proofs.piece_on.Goals as goal

pub returns : goal.returns
returns c = let f = c.ranges.day in rw (to_z-of_z f) at (piece_is _ _ _ _ _ _ _ _ _ (c.block_on.ensures.0) (c.block_on.ensures.1) (c.clip.ensures))
