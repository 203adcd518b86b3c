-- `ticket_marks::are_marks` meets its contract. Assumes nothing.
use Rattle.std.proofs.Common.{◌≡◌, true}
use Rattle.instant.specs.Instant.{nanos}
use Rattle.ticket_marks.specs.Marks.{latest, are_marks}
use Rattle.ticket_marks.proofs.are_marks.Given as goal

abbrev pub invariant-loop-i : goal.invariant-loop-i
invariant-loop-i l = are_marks (nanos l.t) (latest l.i l.m.items) ≡ true
