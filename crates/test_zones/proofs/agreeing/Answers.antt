use Rattle.std.proofs.Common.{arith, ◌∙◌}
use Rattle.test_zones.proofs.Steps.{counted-yes, counted-no, start}
use Rattle.test_zones.proofs.agreeing.Goals as goal
use Rattle.test_zones.proofs.agreeing.Goals.{then-agrees_at, else-agrees_at}

pub loop-i-init : goal.loop-i-init
loop-i-init c = (start _, omega arith)

pub loop-i-preserved : goal.loop-i-preserved
loop-i-preserved c =
    elim c.if-agrees_at.branch [
      | then-agrees_at w ↦ (w.k-is ∙ counted-yes _ c.loop-i.invariant.0 c.agrees_at.ensures w.if-agrees_at.true, omega arith)
      | else-agrees_at w ↦ (w.k-is ∙ counted-no _ c.loop-i.invariant.0 c.agrees_at.ensures w.if-agrees_at.false, omega arith)
    ]
