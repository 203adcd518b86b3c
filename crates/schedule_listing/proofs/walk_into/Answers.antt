use Rattle.schedule_listing.proofs.Windows.{walking-starts, walking-ready, walking_on, walked-room, walked-few, walked-count, walked_same, range_last, range-short, range-end}
use Rattle.instant.specs.Instant.{nanos}
use mathlib.Core.Path.{refl, sym, ◌∙◌}
use native.Mathlib.Omega.{arith}
use borrow.Author.Tests.{ltb-true, ltb-false}
use Rattle.std.proofs.Common.{rules}
use Rattle.schedule_listing.proofs.walk_into.Goals as goal

pub loop-s-init : goal.loop-s-init
loop-s-init g c = (walking-starts _ _ _ _ _, c.requires.0.start)

pub window_end-hi-requires : goal.window_end-hi-requires
window_end-hi-requires g c = (range-short _ (c.loop-s.invariant).1, range-short _ c.requires.0.end)

pub working_in-n-requires : goal.working_in-n-requires
working_in-n-requires g c = let h = (ltb-true (nanos (c.loop-s.lo)) (nanos (c.args.b)) (sym (c.precedes.ensures) ∙ (c.loop-s-test.true))) in let e = (c.window_end-hi.ensures).0 in (search rules, (c.requires.0.fits, record { low = (c.loop-s.invariant).1; high = range-end _ _ _ c.loop-s.invariant.1 c.requires.0.end h e (c.window_end-hi.ensures).1; order = omega arith; short = omega arith }, c.requires.1))

pub join_window-last-requires : goal.join_window-last-requires
join_window-last-requires g c = (walking-ready _ _ _ _ _ _ _ _ (c.loop-s.invariant).0 (ltb-true (nanos (c.loop-s.lo)) (nanos (c.args.b)) (sym (c.precedes.ensures) ∙ (c.loop-s-test.true))) _ (c.window_end-hi.ensures).0 _ _ (c.working_in-n.ensures).0 (let w = c.requires.0.fits.works in let p = c.requires.0.fits.pauses in let q = c.requires.0.fits.closings in let n = (c.working_in-n.ensures).1 in omega arith) (range_last _ c.requires.0.end) c.requires.0.space, (let u = c.requires.1 in let n = (c.working_in-n.ensures).1 in omega arith), (c.loop-s.invariant).1)

pub loop-s-smaller : goal.loop-s-smaller
loop-s-smaller g c = let h = (ltb-true (nanos (c.loop-s.lo)) (nanos (c.args.b)) (sym (c.precedes.ensures) ∙ (c.loop-s-test.true))) in let e = (c.window_end-hi.ensures).0 in omega arith

pub loop-s-preserved : goal.loop-s-preserved
loop-s-preserved g c = (walking_on _ _ _ _ _ _ _ _ (c.loop-s.invariant).0 (ltb-true (nanos (c.loop-s.lo)) (nanos (c.args.b)) (sym (c.precedes.ensures) ∙ (c.loop-s-test.true))) _ (c.window_end-hi.ensures).0 _ _ (c.working_in-n.ensures).0 (let w = c.requires.0.fits.works in let p = c.requires.0.fits.pauses in let q = c.requires.0.fits.closings in let n = (c.working_in-n.ensures).1 in omega arith) c.requires.0.space _ (c.join_window-last.ensures).0 _ (c.join_window-last.ensures).1, range-end _ _ _ c.loop-s.invariant.1 c.requires.0.end (ltb-true (nanos (c.loop-s.lo)) (nanos (c.args.b)) (sym (c.precedes.ensures) ∙ (c.loop-s-test.true))) (c.window_end-hi.ensures).0 (c.window_end-hi.ensures).1)

pub finish-requires : goal.finish-requires
finish-requires g c = ((c.loop-s.invariant).0.small, walked-few _ _ _ _ _ _ _ _ _ (c.loop-s.invariant).0 (range_last _ (c.loop-s.invariant).1), walked-room _ _ _ _ _ _ _ _ _ (c.loop-s.invariant).0 (ltb-false (nanos (c.loop-s.lo)) (nanos (c.args.b)) (sym (c.precedes.ensures) ∙ (c.loop-s-test.false))) c.requires.0.space)

pub returns : goal.returns
returns g c = (walked-count _ _ _ _ _ _ _ _ _ (c.loop-s.invariant).0 (ltb-false (nanos (c.loop-s.lo)) (nanos (c.args.b)) (sym (c.precedes.ensures) ∙ (c.loop-s-test.false))) _ (c.finish.ensures).0, walked_same _ _ _ _ _ _ _ _ _ (c.loop-s.invariant).0 (ltb-false (nanos (c.loop-s.lo)) (nanos (c.args.b)) (sym (c.precedes.ensures) ∙ (c.loop-s-test.false))) _ (c.finish.ensures).1)
