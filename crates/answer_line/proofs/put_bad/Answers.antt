-- `answer_line::put_bad` meets its contract.
use Rattle.answer_line.proofs.Placing.{bad-line}
use native.Mathlib.Omega.{arith}
use borrow.Author.Rules.{rules}
use Rattle.answer_line.proofs.put_bad.Goals as goal

pub returns : goal.returns
returns c = (bad-line _ _ (omega arith) c.letters.ensures.text (search rules), omega (arith, c.letters.ensures.text.behind, c.letters-2.ensures.text.behind))
