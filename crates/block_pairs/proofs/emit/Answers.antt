use Rattle.std.proofs.Common.{arith, length-set}
use Rattle.block_pairs.proofs.Cutting.{emit-kept, emit-none}
use Rattle.block_pairs.proofs.emit.Goals as goal

pub returns-then-s-e : goal.returns-then-s-e
returns-then-s-e c = (emit-kept _ _ _ _ c.if-s-e.true c.requires, omega arith, simp length-set)

pub returns-else-s-e : goal.returns-else-s-e
returns-else-s-e c = (emit-none _ _ _ _ c.if-s-e.false, omega arith, simp length-set)
