-- The dates in front of the present one are other days.
use Rattle.std.proofs.Common.{◌+◌, ◌*◌, ◌-◌, ◌≡◌}
use Rattle.book_dates.specs.Days.{dates_at}
use Rattle.model.specs.Basic.{among}
use Rattle.model.specs.DayNumber.{day_of}
use Rattle.window_marks.proofs.has_day.Given as goal

abbrev pub invariant-loop-i : goal.invariant-loop-i
invariant-loop-i l = among (dates_at l.book (l.p + 4 * l.i) (l.n - l.i)) (day_of l.day) ≡ among (dates_at l.book l.p l.n) (day_of l.day)
