-- `answer_line::Writer::number` meets its contract.
use mathlib.Core.Path.{ap, ◌∙◌}
use mir.Syntax.{w64}
use mir.Facts.{to_z-of_z}
use Rattle.instant_signed.specs.Signed.{biased}
use Rattle.answer_line.proofs.Placing.{of-text, minus-text, shown-minus, shown-plus}
use native.Mathlib.Omega.{arith}
use Rattle.answer_line.proofs.Writer.number.Goals as goal

pub returns-then-k-lt-HALF-clause-text : goal.returns-then-k-lt-HALF-clause-text
returns-then-k-lt-HALF-clause-text c = (
  of-text _ _ (shown-minus _ _ c.ranges.x (c.lift-k.ensures ∙ ap biased (to_z-of_z {w = w64} c.ranges.x)) c.if-k-lt-HALF.true)
      (minus-text _ _ (omega arith) _ c.byte.ensures.text c.byte-then-k-lt-HALF.ensures.text c.digits.ensures.text.0),
  omega (arith, c.byte.ensures.text.behind, c.byte-then-k-lt-HALF.ensures.text.behind),
)

pub returns-clause-text : goal.returns-clause-text
returns-clause-text c = (of-text _ _ (shown-plus _ _ c.ranges.x (c.lift-k.ensures ∙ ap biased (to_z-of_z {w = w64} c.ranges.x)) c.if-k-lt-HALF.false) c.size.ensures.text.0, omega arith)
