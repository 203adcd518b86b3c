-- `walk_skip::days_behind` meets its contract: the date is among the dates, or ends before the first second that has them. Assumes nothing.
use Prim.Native.Nat.{◌<◌}
use native.Mathlib.Omega.{arith}
use borrow.Author.Tests.{not-true, not-false}
use Rattle.model.specs.DayNumber.{day_of}
use Rattle.laws_calendar.specs.Numbers.{day-bits, told-before, told-not}
use Rattle.walk_skip.proofs.Spans.{behind-at, behind-far, behind-near}
use Rattle.walk_skip.proofs.days_behind.Goals.{Else-not-precedes}
use Rattle.walk_skip.proofs.days_behind.Goals as goal

pub returns-then-not-precedes : goal.returns-then-not-precedes
returns-then-not-precedes c = behind-at _ (omega (arith, day-bits c.ranges.d, day-bits c.ranges.first, told-not _ _ c.precedes.ensures (not-true _ c.if-not-precedes.true-raw)))

pub overflow_add-end : goal.overflow_add-end
overflow_add-end c = omega (arith, day-bits c.ranges.d, c.requires.0.small, c.midnight.ensures)

pub overflow_add-end-2 : goal.overflow_add-end-2
overflow_add-end-2 c = omega (arith, day-bits c.ranges.d, c.requires.0.small, c.midnight.ensures)

-- the date is before the first one
ahead : (c : Else-not-precedes) → day_of c.args.d < day_of c.args.first
ahead c = omega (arith, day-bits c.ranges.d, day-bits c.ranges.first, told-before _ _ c.precedes.ensures (not-false _ c.if-not-precedes.false-raw))

pub returns-then-end-lo : goal.returns-then-end-lo
returns-then-end-lo c = behind-far (ahead (goal.at.returns-then-end-lo c).Else-not-precedes) (omega arith) (omega (arith, day-bits c.ranges.d, c.midnight.ensures))

pub returns : goal.returns
returns c = behind-near _ (ahead (goal.at.returns c).Else-not-precedes)
