-- `ticket_marks::without` meets its contract. Assumes nothing.
use Rattle.std.proofs.Common.{◌≡◌, ◌≤◌}
use Rattle.ticket_marks.specs.Marks.{latest, marks_in, others}
use Rattle.ticket_marks.proofs.without.Given as goal

abbrev pub invariant-loop-i : goal.invariant-loop-i
invariant-loop-i l = record { same : marks_in l.r ≡ others l.name (latest l.i l.m.items); few : l.r.len ≤ l.i }
