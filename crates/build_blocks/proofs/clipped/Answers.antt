use Rattle.build_blocks.proofs.Pieces.{clip-in, clip-out}
use Rattle.build_blocks.proofs.clipped.Goals as goal

pub returns-then-from-to : goal.returns-then-from-to
returns-then-from-to c = clip-in _ _ _ _ _ _ c.max-from.ensures c.min-to.ensures c.if-from-to.true

pub returns-else-from-to : goal.returns-else-from-to
returns-else-from-to c = clip-out _ _ _ _ _ _ c.max-from.ensures c.min-to.ensures c.if-from-to.false
