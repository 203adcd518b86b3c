use native.Mathlib.Omega.{arith}
use Rattle.window_memory.specs.Sizes.{size-one, size-four, size-all}
use Rattle.window_memory.proofs.size_for.Goals as goal

-- src/lib.rt:35:9
pub returns-then-records-le1 : goal.returns-then-records-le1
returns-then-records-le1 c = size-one _ (omega arith)

-- src/lib.rt:38:9
pub returns-then-records-le-FEW_RECORDS : goal.returns-then-records-le-FEW_RECORDS
returns-then-records-le-FEW_RECORDS c = size-four _ (omega arith) (omega arith)

-- src/lib.rt:30:1
pub returns : goal.returns
returns c = size-all _ (omega arith) c.requires
