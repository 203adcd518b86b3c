-- `walk_skip::borders` meets its contract: from seconds to whole weeks. Assumes nothing.
use native.Mathlib.Omega.{arith}
use Rattle.walk_skip.proofs.Rooms.{borders-repeat}
use Rattle.walk_skip.proofs.borders.Goals as goal

pub overflow_add-result : goal.overflow_add-result
overflow_add-result c = omega (arith, c.room.ensures.1)

pub overflow_sub-result : goal.overflow_sub-result
overflow_sub-result c = omega arith

pub returns : goal.returns
returns c = borders-repeat _ (c.requires.0.well.ok) _ _ (c.room.ensures.0)
