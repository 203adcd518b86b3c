-- `is_period` meets its contract.
use native.Mathlib.Omega.{arith}
use Rattle.query_numbers.proofs.Answering as A
use Rattle.query_numbers.proofs.is_period.Goals as goal

pub returns-then-kind-eq-NEXT : goal.returns-then-kind-eq-NEXT
returns-then-kind-eq-NEXT c = A.one-of-first _ c.ranges.kind c.if-kind-eq-NEXT.true (omega arith)

pub returns : goal.returns
returns c = A.one-of-second _ _ c.ranges.kind (omega arith) c.if-kind-eq-NEXT.false
