-- `answer_line::put_period` meets its contract.
use Rattle.answer_line.proofs.Placing.{period-line, of-text}
use Rattle.model.specs.Lines.{shown}
use mir.Facts.{to_z-of_z}
use mir.Syntax.{w64}
use mathlib.Core.Path.{ap}
use native.Mathlib.Omega.{arith}
use borrow.Author.Rules.{rules}
use Rattle.answer_line.proofs.put_period.Goals as goal

pub returns : goal.returns
returns c = (period-line _ _ (omega arith) _ _ _ _ c.letters.ensures.text (of-text _ _ (ap shown (to_z-of_z {w = w64} c.ranges.sec)) c.number.ensures.text.0) (of-text _ _ (ap shown (to_z-of_z {w = w64} c.ranges.ns)) c.number-2.ensures.text.0) (of-text _ _ (ap shown (to_z-of_z {w = w64} c.ranges.sec2)) c.number-3.ensures.text.0) (of-text _ _ (ap shown (to_z-of_z {w = w64} c.ranges.ns2)) c.number-4.ensures.text.0) (search rules), omega (arith, c.letters.ensures.text.behind, c.byte.ensures.text.behind))
