-- `answer_line::put_counted` meets its contract.
use Rattle.answer_line.proofs.Placing.{counted-line, of-text}
use Rattle.model.specs.Lines.{shown}
use mir.Facts.{to_z-of_z}
use mir.Syntax.{w64}
use mathlib.Core.Path.{ap}
use native.Mathlib.Omega.{arith}
use borrow.Author.Rules.{rules}
use Rattle.answer_line.proofs.put_counted.Goals as goal

pub returns : goal.returns
returns c = (counted-line _ _ (omega arith) _ _ _ c.letters.ensures.text (of-text _ _ (ap shown (to_z-of_z {w = w64} c.ranges.sec)) c.number.ensures.text.0) (of-text _ _ (ap shown (to_z-of_z {w = w64} c.ranges.ns)) c.number-2.ensures.text.0) c.size.ensures.text.0 (search rules), omega (arith, c.letters.ensures.text.behind, c.byte.ensures.text.behind))
