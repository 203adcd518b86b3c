use native.Mathlib.Omega.{arith}
use borrow.Author.Tests.{ltb-true, ltb-false}
use mathlib.Core.Path.{sym, ◌∙◌}
use Prim.Native.Nat.{◌-◌}
use Rattle.std.proofs.lemmas.Result.{err_from_is_err_and}
use Rattle.instant.specs.Instant.{nanos}
use Rattle.walk_distance.specs.Distances.{way_of}
use Rattle.laws_skip.specs.Schedules.{ahead-inside}
use Rattle.walk_distance.proofs.Borders.{ahead_of}
use Rattle.walk_period.proofs.Walking.{walking-nothing, walking-no-work, walking-far, walking-ended, walking-whole, walking-grows, walking-last, walking-ends, ended-upto, growing-upto, last-upto, walked, limit_is, looked, fits, cut_fits, end_fits}
use Rattle.walk_period.proofs.walk_into.Goals as goal

pub working_into-n-requires : goal.working_into-n-requires
working_into-n-requires c = (c.requires.0, c.place-at.ensures.0, (omega (arith, c.requires.2.0, c.loop-s.invariant.3), omega (arith, c.requires.2.1, c.loop-s.invariant.4), omega (arith, c.requires.2.2, c.loop-s.invariant.5)))

pub period_in_window-requires : goal.period_in_window-requires
period_in_window-requires c = (omega (arith, c.working_into-n.ensures.0.1, c.working_into-n.ensures.1, c.requires.2.2, c.loop-s.invariant.5), c.loop-s.invariant.1, c.loop-s.invariant.2)

pub returns-in_err-period_in_window : goal.returns-in_err-period_in_window
returns-in_err-period_in_window c =
    let p = err_from_is_err_and c.from_residual.result c.from_residual.ensures.1 in
    let h = ltb-true (nanos c.loop-s.x) (nanos c.reach-end.result) (sym c.precedes.ensures ∙ c.loop-s-test.true) in
    let q = looked _ _ (way_of c.args.back) _ _ _ _ _ _ _ _ c.in_err-period_in_window.ensures.1 c.width-w.ensures _ c.loop-s.invariant.0.upto c.window_end-y.ensures.0 c.place-at.ensures.1 c.working_into-n.ensures.0.0 in
    rw (p.1, p.2, c.in_err-period_in_window.ensures.0) (walked _ _ _ _ _ (limit_is _) c.reach-end.ensures.0 _ (walking-far _ _ _ _ _ c.loop-s.invariant.0 h _ c.window_end-y.ensures.0 q), tt)

pub returns-then-precedes : goal.returns-then-precedes
returns-then-precedes c =
    let h = ltb-true (nanos c.loop-s.x) (nanos c.reach-end.result) (sym c.precedes.ensures ∙ c.loop-s-test.true) in
    let s = rw c.in-Nothing.is at c.in_ok-period_in_window.ensures in
    let q = looked _ _ (way_of c.args.back) _ _ _ _ _ _ _ _ s.0 c.width-w.ensures _ c.loop-s.invariant.0.upto c.window_end-y.ensures.0 c.place-at.ensures.1 c.working_into-n.ensures.0.0 in
    (walked _ _ _ _ _ (limit_is _) c.reach-end.ensures.0 _ (walking-no-work _ _ _ _ _ c.loop-s.invariant.0 h _ c.window_end-y.ensures.0 q (sym c.precedes-in-Nothing.ensures ∙ c.if-precedes.true)), tt)

pub loop-s-preserved-in-Nothing : goal.loop-s-preserved-in-Nothing
loop-s-preserved-in-Nothing c =
    let h = ltb-true (nanos c.loop-s.x) (nanos c.reach-end.result) (sym c.precedes.ensures ∙ c.loop-s-test.true) in
    let s = rw c.in-Nothing.is at c.in_ok-period_in_window.ensures in
    let q = looked _ _ (way_of c.args.back) _ _ _ _ _ _ _ _ s.0 c.width-w.ensures _ c.loop-s.invariant.0.upto c.window_end-y.ensures.0 c.place-at.ensures.1 c.working_into-n.ensures.0.0 in
    (walking-nothing _ _ _ _ _ c.loop-s.invariant.0 h _ c.window_end-y.ensures.0 q (sym c.precedes-in-Nothing.ensures ∙ c.if-precedes.false), c.window_end-y.ensures.1, c.loop-s.invariant.2, c.working_into-n.auto.on ∙ c.loop-s.invariant.3, c.working_into-n.auto.off ∙ c.loop-s.invariant.4, c.working_into-n.ensures.1 ∙ c.loop-s.invariant.5)

pub is_whole-requires : goal.is_whole-requires
is_whole-requires c =
    let h = ltb-true (nanos c.loop-s.x) (nanos c.reach-end.result) (sym c.precedes.ensures ∙ c.loop-s-test.true) in
    let a = ahead_of (way_of c.args.back) (nanos c.args.t) _ _ c.reach-end.result c.loop-s.invariant.1 c.window_end-y.ensures.1 c.reach-end.ensures.0 c.loop-s.invariant.0.upto c.window_end-y.ensures.0 in
    let s = rw c.in-Growing.is at c.in_ok-period_in_window.ensures in
    let q = looked _ _ (way_of c.args.back) _ _ _ _ _ _ _ _ s.0 c.width-w.ensures _ c.loop-s.invariant.0.upto c.window_end-y.ensures.0 c.place-at.ensures.1 c.working_into-n.ensures.0.0 in
    let u = growing-upto _ _ _ _ _ c.loop-s.invariant.0 h _ c.window_end-y.ensures.0 (ahead-inside _ _ _ _ _ a.order a.near) _ q in
    end_fits _ _ u.2 c.reach-end.ensures.1

pub cut-requires : goal.cut-requires
cut-requires c =
    let h = ltb-true (nanos c.loop-s.x) (nanos c.reach-end.result) (sym c.precedes.ensures ∙ c.loop-s-test.true) in
    let a = ahead_of (way_of c.args.back) (nanos c.args.t) _ _ c.reach-end.result c.loop-s.invariant.1 c.window_end-y.ensures.1 c.reach-end.ensures.0 c.loop-s.invariant.0.upto c.window_end-y.ensures.0 in
    let s = rw c.in-Growing.is at c.in_ok-period_in_window.ensures in
    let q = looked _ _ (way_of c.args.back) _ _ _ _ _ _ _ _ s.0 c.width-w.ensures _ c.loop-s.invariant.0.upto c.window_end-y.ensures.0 c.place-at.ensures.1 c.working_into-n.ensures.0.0 in
    let u = growing-upto _ _ _ _ _ c.loop-s.invariant.0 h _ c.window_end-y.ensures.0 (ahead-inside _ _ _ _ _ a.order a.near) _ q in
    (s.1, omega arith, cut_fits _ _ _ (u.0, u.2) c.reach-end.ensures.1 c.requires.0.limit)

pub returns-then-is_whole : goal.returns-then-is_whole
returns-then-is_whole c =
    let h = ltb-true (nanos c.loop-s.x) (nanos c.reach-end.result) (sym c.precedes.ensures ∙ c.loop-s-test.true) in
    let a = ahead_of (way_of c.args.back) (nanos c.args.t) _ _ c.reach-end.result c.loop-s.invariant.1 c.window_end-y.ensures.1 c.reach-end.ensures.0 c.loop-s.invariant.0.upto c.window_end-y.ensures.0 in
    let s = rw c.in-Growing.is at c.in_ok-period_in_window.ensures in
    let q = looked _ _ (way_of c.args.back) _ _ _ _ _ _ _ _ s.0 c.width-w.ensures _ c.loop-s.invariant.0.upto c.window_end-y.ensures.0 c.place-at.ensures.1 c.working_into-n.ensures.0.0 in
    let u = growing-upto _ _ _ _ _ c.loop-s.invariant.0 h _ c.window_end-y.ensures.0 (ahead-inside _ _ _ _ _ a.order a.near) _ q in
    (walked _ _ _ _ _ (limit_is _) c.reach-end.ensures.0 _ (walking-whole _ _ _ _ _ c.loop-s.invariant.0 h _ c.window_end-y.ensures.0 (ahead-inside _ _ _ _ _ a.order a.near) _ q c.is_whole.ensures c.if-is_whole.true _ c.cut.ensures), fits _ _ _ _ _ _ c.cut.ensures (u.0, u.2) c.reach-end.ensures.0)

pub loop-s-preserved : goal.loop-s-preserved
loop-s-preserved c =
    let h = ltb-true (nanos c.loop-s.x) (nanos c.reach-end.result) (sym c.precedes.ensures ∙ c.loop-s-test.true) in
    let a = ahead_of (way_of c.args.back) (nanos c.args.t) _ _ c.reach-end.result c.loop-s.invariant.1 c.window_end-y.ensures.1 c.reach-end.ensures.0 c.loop-s.invariant.0.upto c.window_end-y.ensures.0 in
    let s = rw c.in-Growing.is at c.in_ok-period_in_window.ensures in
    let q = looked _ _ (way_of c.args.back) _ _ _ _ _ _ _ _ s.0 c.width-w.ensures _ c.loop-s.invariant.0.upto c.window_end-y.ensures.0 c.place-at.ensures.1 c.working_into-n.ensures.0.0 in
    (walking-grows _ _ _ _ _ c.loop-s.invariant.0 h _ c.window_end-y.ensures.0 (ahead-inside _ _ _ _ _ a.order a.near) _ q c.is_whole.ensures c.if-is_whole.false, c.window_end-y.ensures.1, s.1, c.working_into-n.auto.on ∙ c.loop-s.invariant.3, c.working_into-n.auto.off ∙ c.loop-s.invariant.4, c.working_into-n.ensures.1 ∙ c.loop-s.invariant.5)

pub cut-requires-in-Ended : goal.cut-requires-in-Ended
cut-requires-in-Ended c =
    let h = ltb-true (nanos c.loop-s.x) (nanos c.reach-end.result) (sym c.precedes.ensures ∙ c.loop-s-test.true) in
    let a = ahead_of (way_of c.args.back) (nanos c.args.t) _ _ c.reach-end.result c.loop-s.invariant.1 c.window_end-y.ensures.1 c.reach-end.ensures.0 c.loop-s.invariant.0.upto c.window_end-y.ensures.0 in
    let s = rw c.in-Ended.is at c.in_ok-period_in_window.ensures in
    let q = looked _ _ (way_of c.args.back) _ _ _ _ _ _ _ _ s.0 c.width-w.ensures _ c.loop-s.invariant.0.upto c.window_end-y.ensures.0 c.place-at.ensures.1 c.working_into-n.ensures.0.0 in
    let u = ended-upto _ _ _ _ _ c.loop-s.invariant.0 h _ c.window_end-y.ensures.0 (ahead-inside _ _ _ _ _ a.order a.near) _ q in
    (s.1, omega arith, cut_fits _ _ _ u c.reach-end.ensures.1 c.requires.0.limit)

pub returns-in-Ended : goal.returns-in-Ended
returns-in-Ended c =
    let h = ltb-true (nanos c.loop-s.x) (nanos c.reach-end.result) (sym c.precedes.ensures ∙ c.loop-s-test.true) in
    let a = ahead_of (way_of c.args.back) (nanos c.args.t) _ _ c.reach-end.result c.loop-s.invariant.1 c.window_end-y.ensures.1 c.reach-end.ensures.0 c.loop-s.invariant.0.upto c.window_end-y.ensures.0 in
    let s = rw c.in-Ended.is at c.in_ok-period_in_window.ensures in
    let q = looked _ _ (way_of c.args.back) _ _ _ _ _ _ _ _ s.0 c.width-w.ensures _ c.loop-s.invariant.0.upto c.window_end-y.ensures.0 c.place-at.ensures.1 c.working_into-n.ensures.0.0 in
    let u = ended-upto _ _ _ _ _ c.loop-s.invariant.0 h _ c.window_end-y.ensures.0 (ahead-inside _ _ _ _ _ a.order a.near) _ q in
    (walked _ _ _ _ _ (limit_is _) c.reach-end.ensures.0 _ (walking-ended _ _ _ _ _ c.loop-s.invariant.0 h _ c.window_end-y.ensures.0 (ahead-inside _ _ _ _ _ a.order a.near) _ q _ c.cut-in-Ended.ensures), fits _ _ _ _ _ _ c.cut-in-Ended.ensures u c.reach-end.ensures.0)

pub cut-requires-in-Some : goal.cut-requires-in-Some
cut-requires-in-Some c =
    let h = ltb-false (nanos c.loop-s.x) (nanos c.reach-end.result) (sym c.precedes.ensures ∙ c.loop-s-test.false) in
    let u = last-upto _ _ _ _ _ c.loop-s.invariant.0 h _ c.in-Some.is in
    (rw c.in-Some.is at c.loop-s.invariant.2, omega arith, cut_fits _ _ _ u c.reach-end.ensures.1 c.requires.0.limit)

pub returns-in-Some : goal.returns-in-Some
returns-in-Some c =
    let h = ltb-false (nanos c.loop-s.x) (nanos c.reach-end.result) (sym c.precedes.ensures ∙ c.loop-s-test.false) in
    let u = last-upto _ _ _ _ _ c.loop-s.invariant.0 h _ c.in-Some.is in
    (walked _ _ _ _ _ (limit_is _) c.reach-end.ensures.0 _ (walking-last _ _ _ _ _ c.loop-s.invariant.0 h _ c.in-Some.is _ c.cut-in-Some.ensures), fits _ _ _ _ _ _ c.cut-in-Some.ensures u c.reach-end.ensures.0)

pub returns-in-None : goal.returns-in-None
returns-in-None c =
    let h = ltb-false (nanos c.loop-s.x) (nanos c.reach-end.result) (sym c.precedes.ensures ∙ c.loop-s-test.false) in
    (walked _ _ _ _ _ (limit_is _) c.reach-end.ensures.0 _ (walking-ends _ _ _ _ _ c.loop-s.invariant.0 h c.in-None.is), tt)
