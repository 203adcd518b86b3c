-- What the records in front of the present one show.
use Rattle.std.proofs.Common.{length}
use Rattle.window_marks.proofs.Taken.{closed_rule}
use Rattle.window_marks.proofs.Filling.{Folding}
use Rattle.window_marks.proofs.holiday_sides.Given as goal

abbrev pub invariant-loop-c : goal.invariant-loop-c
invariant-loop-c l = Folding l.a l.b (closed_rule l.book l.pack) (length l.closed) l.closed l.sides l.c-index
