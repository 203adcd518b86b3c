-- If the records from the present one on are steady, all are.
use Rattle.std.proofs.Common.{length}
use Rattle.window_marks.proofs.Steady.{Keeping}
use Rattle.instant.specs.Instant.{nanos}
use Rattle.laws_marks.specs.Plain.{SteadyIn}
use Rattle.window_marks.proofs.Taken.{closed_rule}
use Rattle.window_marks.proofs.are_holidays_steady.Given as goal

abbrev pub invariant-loop-c : goal.invariant-loop-c
invariant-loop-c l = Keeping (SteadyIn (nanos l.a) (nanos l.b)) (closed_rule l.book l.pack) (length l.closed) l.closed l.c-index
