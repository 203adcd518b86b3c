-- `ticket_marks::find` meets its contract. Assumes nothing.
use Rattle.std.proofs.Common.{◌≡◌}
use Rattle.model_ticket.specs.History.{up_to}
use Rattle.ticket_marks.specs.Marks.{has_name, latest}
use Rattle.ticket_marks.proofs.find.Given as goal

abbrev pub invariant-loop-i : goal.invariant-loop-i
invariant-loop-i l = up_to (has_name l.name) (latest l.i l.m.items) ≡ up_to (has_name l.name) (latest l.n l.m.items)
