-- `answer_line::put_refused` meets its contract.
use Rattle.answer_line.proofs.Placing.{refused-line}
use native.Mathlib.Omega.{arith}
use borrow.Author.Rules.{rules}
use Rattle.answer_line.proofs.put_refused.Goals as goal

pub returns : goal.returns
returns c = (refused-line _ _ (omega arith) _ _ c.letters.ensures.text c.size.ensures.text.0 c.size-2.ensures.text.0 (search rules), omega (arith, c.letters.ensures.text.behind, c.byte.ensures.text.behind))
