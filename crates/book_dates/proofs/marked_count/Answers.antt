use mathlib.Core.Path.{refl}
use Rattle.book_dates.proofs.Words.{marking-start, marking-new, marking-again}
use Rattle.book_dates.proofs.marked_count.Goals as goal

pub loop-i-init : goal.loop-i-init
loop-i-init c = marking-start _ _ _ _ refl

pub loop-i-preserved-then-is_new : goal.loop-i-preserved-then-is_new
loop-i-preserved-then-is_new c = marking-new _ _ _ _ c.loop-i.invariant c.loop-i-test.true c.four_at-w.ensures c.slot-k.ensures.0 c.slot-k.ensures.1 c.is_new.ensures c.if-is_new.true

pub loop-i-preserved : goal.loop-i-preserved
loop-i-preserved c = marking-again _ _ _ _ c.loop-i.invariant c.loop-i-test.true c.four_at-w.ensures c.slot-k.ensures.0 c.slot-k.ensures.1 c.is_new.ensures c.if-is_new.false
