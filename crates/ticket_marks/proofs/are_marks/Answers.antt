use Rattle.std.proofs.Common.{sym, ◌∙◌, arith}
use borrow.Author.Tests.{ltb-true, ltb-false}
use Rattle.ticket_marks.specs.Marks.{count_to}
use Rattle.ticket_marks.specs.Laws.{marks-start, marks-bad, marks-twice, marks-next, place-set}
use Rattle.ticket_marks.proofs.are_marks.Goals as goal
use Rattle.ticket_marks.proofs.are_marks.Goals.{then-not-is_mark-via-then-not-is_mark, then-not-is_mark-via-else-not-is_mark+then-is_some}

pub loop-i-init : goal.loop-i-init
loop-i-init c = marks-start _ 0 0 _

pub returns-then-not-is_mark : goal.returns-then-not-is_mark
returns-then-not-is_mark c =
    elim c.then-not-is_mark.branch [
      | then-not-is_mark-via-then-not-is_mark w ↦ marks-bad _ _ _ _ c.loop-i-test.true (sym c.is_mark.ensures ∙ w.if-not-is_mark.true)
      | then-not-is_mark-via-else-not-is_mark+then-is_some w ↦
          marks-twice _ _ _ _ _ w.find.ensures.0 (sym c.is_mark.ensures ∙ w.if-not-is_mark.false) c.loop-i-test.true
          (let h = ltb-true 0 (count_to w.find.result) (sym (place-set w.find.result) ∙ sym w.is_some.ensures ∙ w.if-is_some.true) in λ e. omega arith)
    ]

pub loop-i-preserved : goal.loop-i-preserved
loop-i-preserved c =
    let h = ltb-false 0 (count_to c.find.result) (sym (place-set c.find.result) ∙ sym c.is_some.ensures ∙ c.if-is_some.false) in
    marks-next _ _ 0 _ _ c.find.ensures.0 (sym c.is_mark.ensures ∙ c.if-not-is_mark.false) (omega arith) c.loop-i.invariant
