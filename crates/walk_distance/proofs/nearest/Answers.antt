-- `walk_distance::nearest` meets its contract: by its two ways. Assumes nothing.
use Rattle.walk_distance.proofs.Blocks.{rest_back, rest-on}
use mathlib.Core.Path.{refl}
use Rattle.walk_distance.proofs.nearest.Goals as goal

pub returns-then-back : goal.returns-then-back
returns-then-back c = rw c.if-back.true (rest_back _ _ _ _ _ _ _ c.requires.0 refl c.saturating_sub-from.ensures c.saturating_sub-to.ensures)

pub returns : goal.returns
returns c = rw c.if-back.false (rest-on _ _ _ _ c.requires.0)
