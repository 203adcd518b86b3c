use Rattle.book_dates.proofs.Words.{rises-no, rises-yes, rises-end}
use Rattle.book_dates.proofs.ascend.Goals as goal

pub returns-then-w-last : goal.returns-then-w-last
returns-then-w-last c = rises-no _ _ c.loop-i.last c.loop-i-test.true c.loop-i.invariant c.four_at-w.ensures c.if-w-last.true

pub loop-i-preserved : goal.loop-i-preserved
loop-i-preserved c = rises-yes _ _ c.loop-i.last c.loop-i-test.true c.loop-i.invariant c.four_at-w.ensures c.if-w-last.false

pub returns : goal.returns
returns c = rises-end _ _ c.loop-i.last c.loop-i-test.false c.loop-i.invariant
