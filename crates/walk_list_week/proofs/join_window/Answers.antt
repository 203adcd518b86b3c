use mathlib.Core.Path.{ap}
use native.Mathlib.Omega.{arith}
use Rattle.walk_list_week.specs.Stretched.{open_of}
use Rattle.walk_list_week.proofs.Turns.{left-next, left-none, joining-first, joining-on, joining-apart, joining-room, joined-last, joined-count, joined_same}
use Rattle.walk_list_week.proofs.join_window.Goals as goal
use Rattle.walk_list_week.proofs.join_window.Goals.{in-Some+then-is_apart, in-Some+else-is_apart, in_default}

pub put-requires : goal.put-requires
put-requires c =
    let q = left-next _ _ _ _ c.loop-i-test.true _ c.block_at-x.ensures in
    (joining-room _ _ _ _ _ _ _ _ _ _ q _ _ c.loop-i.invariant (ap open_of c.in-Some.is) c.is_apart.ensures c.if-is_apart.true, rw c.in-Some.is at c.loop-i.invariant.small)

pub loop-i-preserved : goal.loop-i-preserved
loop-i-preserved c =
    let q = left-next _ _ _ _ c.loop-i-test.true _ c.block_at-x.ensures in
    elim c.match-last.branch [
      | in-Some+then-is_apart w ↦ rw (w.out-is, w.last-is, w.count-is) (joining-apart _ _ _ _ _ _ _ _ _ _ q _ _ c.loop-i.invariant (ap open_of w.in-Some.is) w.is_apart.ensures w.if-is_apart.true _ w.put.ensures)
      | in-Some+else-is_apart w ↦ rw (w.out-is, w.last-is, w.count-is) (joining-on _ _ _ _ _ _ _ _ _ _ q _ _ c.loop-i.invariant (ap open_of w.in-Some.is) w.is_apart.ensures w.if-is_apart.false _ w.join.ensures)
      | in_default w ↦ rw (w.out-is, w.last-is, w.count-is) (joining-first _ _ _ _ _ _ _ _ _ _ q _ c.loop-i.invariant (ap open_of w.in_default.is))
    ]

pub returns : goal.returns
returns c =
    let q = left-none _ _ _ _ (omega arith) c.loop-i-test.false in
    (record { last = joined-last _ _ _ _ _ _ _ _ _ c.loop-i.invariant q; small = c.loop-i.invariant.small; count = joined-count _ _ _ _ _ _ _ _ _ c.loop-i.invariant q }, joined_same _ _ _ _ _ _ _ _ _ c.loop-i.invariant q)
