-- `query_stream::end` meets its contract.
use Rattle.query_stream.proofs.Lines.{last_line, no_line}
use native.Mathlib.Omega.{arith}
use Rattle.query_stream.proofs.end.Goals as goal

pub returns-then-p : goal.returns-then-p
returns-then-p c = (last_line _ _ _ _ _ _ _ c.if-p.true c.query_of.ensures c.answer.ensures.0, c.answer.ensures.1)

pub returns : goal.returns
returns c = (no_line _ _ _ _ c.if-p.false, omega arith)
