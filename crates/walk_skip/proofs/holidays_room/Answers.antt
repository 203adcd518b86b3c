use native.Mathlib.Omega.{arith}
use Rattle.walk_skip.proofs.Rooms.{open_more, all_no, all_end, no_closed}
use Rattle.walk_skip.proofs.holidays_room.Goals as goal

pub returns-then-m-eq0 : goal.returns-then-m-eq0
returns-then-m-eq0 c = all_no _ _ _ c.loop-h.invariant no_closed c.loop-h-test.true c.holiday_room-m.ensures c.if-m-eq0.true

pub loop-h-preserved : goal.loop-h-preserved
loop-h-preserved c = open_more _ _ _ _ c.loop-h.invariant no_closed c.loop-h-test.true (omega arith) c.holiday_room-m.ensures c.if-m-eq0.false c.min-room.ensures

pub returns : goal.returns
returns c = all_end _ _ _ c.loop-h.invariant (omega arith) c.loop-h-test.false
