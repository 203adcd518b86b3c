use Rattle.std.proofs.Common.{arith}
use Rattle.ticket_marks.specs.Laws.{others-start, others-turn, kept-yes, kept-not}
use Rattle.ticket_marks.proofs.without.Goals as goal
use Rattle.ticket_marks.proofs.without.Goals.{then-x-name, else-x-name}

pub loop-i-init : goal.loop-i-init
loop-i-init c = record { same = others-start _ _ c.no_marks-r.ensures.0; few = omega arith }

pub loop-i-preserved : goal.loop-i-preserved
loop-i-preserved c =
    let i = c.loop-i.invariant in
    elim c.if-x-name.branch [
      | then-x-name w ↦ rw w.r-is (record { same = others-turn _ _ _ i.same (kept-yes _ _ _ w.if-x-name.true w.push-r.ensures.0); few = omega arith })
      | else-x-name w ↦ rw w.r-is (record { same = others-turn _ _ _ i.same (kept-not _ _ _ w.if-x-name.false); few = omega arith })
    ]
