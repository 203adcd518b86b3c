-- `query_line::spaced` meets its contract.
use native.Mathlib.Omega.{arith}
use Rattle.query_line.proofs.Feeding.{space-no, space-full, space-next}
use Rattle.query_line.proofs.spaced.Goals as goal

pub returns-in_err-key : goal.returns-in_err-key
returns-in_err-key c = λ s. rw c.from_residual.ensures (space-no c.args.f s c.in_err-key.ensures)

pub returns-then-f-ge3 : goal.returns-then-f-ge3
returns-then-f-ge3 c = λ s. space-full c.args.f s c.in_ok-key.ensures (omega arith)

pub returns : goal.returns
returns c = λ s. space-next c.args.f s c.in_ok-key.ensures (omega arith)
