-- `is_move` meets its contract.
use native.Mathlib.Omega.{arith}
use Rattle.query_numbers.proofs.Answering as A
use Rattle.query_numbers.proofs.is_move.Goals as goal

pub returns-then-kind-eq-ADD : goal.returns-then-kind-eq-ADD
returns-then-kind-eq-ADD c = A.one-of-first _ c.ranges.kind c.if-kind-eq-ADD.true (omega arith)

pub returns : goal.returns
returns c = A.one-of-second _ _ c.ranges.kind (omega arith) c.if-kind-eq-ADD.false
