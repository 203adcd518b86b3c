use Rattle.std.proofs.Common.{◌≡◌, ◌+◌, ◌-◌, sym, ◌∙◌, arith}
use Rattle.ticket_marks.specs.Laws.{find-yes, find-on, find_none}
use Rattle.ticket_marks.proofs.find.Goals as goal

pub returns-then-m-i : goal.returns-then-m-i
returns-then-m-i c =
    let e : c.loop-i.i - 1 + 1 ≡ c.loop-i.i = omega arith in
    rw e (find-yes _ _ _ _ (sym e) c.if-m-i.true ∙ c.loop-i.invariant, omega arith)

pub loop-i-preserved : goal.loop-i-preserved
loop-i-preserved c = sym (find-on _ _ _ _ (omega arith) c.if-m-i.false) ∙ c.loop-i.invariant

pub returns : goal.returns
returns c = (find_none _ _ _ _ (omega arith) c.loop-i.invariant, omega arith)
