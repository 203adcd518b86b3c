-- `walk_skip::days_ahead` meets its contract: the date is among the dates, or begins behind the last second that has them. Assumes nothing.
use Prim.Native.Nat.{◌<◌}
use native.Mathlib.Omega.{arith}
use borrow.Author.Tests.{not-true, not-false}
use Rattle.model.specs.DayNumber.{day_of}
use Rattle.laws_calendar.specs.Numbers.{day-bits, told-before, told-not}
use Rattle.walk_skip.proofs.Spans.{ahead-at, ahead-far, ahead-near}
use Rattle.walk_skip.proofs.days_ahead.Goals.{Else-not-precedes}
use Rattle.walk_skip.proofs.days_ahead.Goals as goal

pub returns-then-not-precedes : goal.returns-then-not-precedes
returns-then-not-precedes c = ahead-at _ (omega (arith, day-bits c.ranges.d, day-bits c.ranges.last, told-not _ _ c.precedes.ensures (not-true _ c.if-not-precedes.true-raw)))

-- the date is behind the last one
behind : (c : Else-not-precedes) → day_of c.args.last < day_of c.args.d
behind c = omega (arith, day-bits c.ranges.d, day-bits c.ranges.last, told-before _ _ c.precedes.ensures (not-false _ c.if-not-precedes.false-raw))

pub returns-then-end-start : goal.returns-then-end-start
returns-then-end-start c = ahead-far (behind (goal.at.returns-then-end-start c).Else-not-precedes) (omega arith) (omega (arith, day-bits c.ranges.d, c.midnight-start.ensures))

pub returns : goal.returns
returns c = ahead-near _ (behind (goal.at.returns c).Else-not-precedes)
