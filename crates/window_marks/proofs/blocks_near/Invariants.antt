-- The blocks of the dates in front of the present one are in the list, without some that touch no instant from a to b.
use Rattle.window_marks.proofs.Filling.{Nearing}
use Rattle.window_marks.specs.Whole.{rule_by}
use Rattle.model.specs.DayNumber.{day_of}
use Rattle.instant.specs.Instant.{nanos}
use Rattle.window_marks.proofs.blocks_near.Given as goal

abbrev pub invariant-loop-k : goal.invariant-loop-k
invariant-loop-k l = Nearing (rule_by l.book l.f l.z l.from l.to l.dates) (nanos l.a) (nanos l.b) (day_of l.first) l.count l.out.items l.out.len l.k
