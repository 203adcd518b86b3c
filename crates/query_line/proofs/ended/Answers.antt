-- `query_line::ended` meets its contract.
use native.Mathlib.Omega.{arith}
use Rattle.query_line.proofs.Feeding.{end-no, end-four, end-two, end-other}
use Rattle.query_line.proofs.ended.Goals as goal

pub returns-in_err-key : goal.returns-in_err-key
returns-in_err-key c = rw c.from_residual.ensures (end-no c.args.f c.in_err-key.ensures)

pub returns-then-f-ge3 : goal.returns-then-f-ge3
returns-then-f-ge3 c = rw c.four.ensures (end-four c.args.f c.in_ok-key.ensures (omega arith))

pub returns-then-f-eq1 : goal.returns-then-f-eq1
returns-then-f-eq1 c = rw c.two.ensures (end-two c.args.f c.in_ok-key.ensures (omega arith))

pub returns : goal.returns
returns c = end-other c.args.f c.in_ok-key.ensures (omega arith) (λ e. omega arith)
