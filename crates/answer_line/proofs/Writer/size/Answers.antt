-- `answer_line::Writer::size` meets its contract.
use Rattle.answer_line.proofs.Placing.{size-text}
use native.Mathlib.Omega.{arith}
use Rattle.answer_line.proofs.Writer.size.Goals as goal

pub returns-clause-text : goal.returns-clause-text
returns-clause-text c = (size-text _ _ (omega arith) _ c.byte.ensures.text c.digits.ensures.text.0, omega (arith, c.byte.ensures.text.behind))
