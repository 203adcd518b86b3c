-- `build_check::union_of` meets its contract. Assumes nothing.
use Rattle.build_check.proofs.Lefts.{union-is}
use Rattle.build_check.proofs.union_of.Goals as goal

pub returns : goal.returns
returns c = union-is _ _ _ _ _ _ _ c.shift_blocks.ensures c.union.ensures.0 c.union.ensures.1
