use native.Mathlib.Omega.{arith}
use mir.Facts.{to_z-of_z}
use Rattle.laws_calendar.specs.Numbers.{day-bits, bits-day, bits_is}
use Rattle.window_dates.proofs.Fill.{told-on}
use Rattle.window_piece.proofs.Fills.{dating-starts, dating-ready, dating-on, dating-off, dating-done}
use Rattle.window_piece.proofs.Frames.{plain-as}
use Rattle.window_piece.proofs.Laws.{apart-clipped}
use Rattle.window_workday.specs.Workday.{plain}
use Rattle.window_workday.proofs.plain_into.Goals.{then-applies, else-applies}
use Rattle.window_workday.proofs.plain_into.Goals as goal

pub loop-i-init : goal.loop-i-init
loop-i-init c = (dating-starts _ _ _ _ _ _ _ c.requires.1.normal, omega arith)

pub later-requires : goal.later-requires
later-requires c = rw (to_z-of_z c.ranges.first) (c.requires.0.4, omega (arith, c.loop-i-test.true, c.requires.0.5))

pub applies-requires : goal.applies-requires
applies-requires c = bits_is c.later.ensures (omega (arith, day-bits c.ranges.first, c.loop-i-test.true, c.requires.0.5))

pub overflow_add-k : goal.overflow_add-k
overflow_add-k c = omega (arith, c.loop-i.invariant.1, c.loop-i-test.true, c.requires.0.0, c.requires.0.1, c.requires.0.2, c.requires.0.3)

pub overflow_add-k-then-applies : goal.overflow_add-k-then-applies
overflow_add-k-then-applies c = omega (arith, c.loop-i.invariant.1, c.loop-i-test.true, c.requires.0.0, c.requires.0.1, c.requires.0.2, c.requires.0.3)

pub span_into-n-requires : goal.span_into-n-requires
span_into-n-requires c = dating-ready _ _ _ (λ d. apart-clipped _ _ _ _) _ _ _ _ _ _ _ c.loop-i.invariant.0 c.loop-i-test.true c.requires.1.room

pub overflow_add-k-in-loop-i : goal.overflow_add-k-in-loop-i
overflow_add-k-in-loop-i c = omega (arith, c.loop-i.invariant.1, c.loop-i-test.true, c.requires.0.0, c.requires.0.3)

pub loop-i-preserved : goal.loop-i-preserved
loop-i-preserved c = let t = bits-day c.later.ensures (omega (arith, day-bits c.ranges.first, c.loop-i-test.true, c.requires.0.5)) in (
  elim c.if-applies.branch [
    | then-applies w ↦ rw (w.out-is, w.n-is) (dating-on _ _ _ (λ d. apart-clipped _ _ _ _) _ _ _ _ _ _ _ c.loop-i.invariant.0 c.loop-i-test.true (told-on _ t c.applies.ensures w.if-applies.true) _ _ (plain-as (record { first = c.args.f.first; lo = c.args.f.lo; hi = c.args.f.hi }) _ _ _ _ _ _ _ _ _ c.loop-i.invariant.1 w.span_into-n.ensures))
    | else-applies w ↦ rw (w.out-is, w.n-is) (dating-off _ _ _ (λ d. apart-clipped _ _ _ _) _ _ _ _ _ _ _ c.loop-i.invariant.0 c.loop-i-test.true (told-on _ t c.applies.ensures w.if-applies.false))
  ],
  omega (arith, c.loop-i.invariant.1),
)

pub returns : goal.returns
unfolding plain
returns c = rw (day-bits c.ranges.first) at (dating-done _ _ _ (λ d. apart-clipped _ _ _ _) _ _ _ _ _ _ _ c.loop-i.invariant.0 c.loop-i-test.false)
