-- `zone_tzif::table_bounds` meets its contract.
use Rattle.zone_tzif.proofs.Laws.{Widening}
use Rattle.zone_tzif.proofs.table_bounds.Given as goal

abbrev pub invariant-loop-i : goal.invariant-loop-i
invariant-loop-i l = Widening l.f l.first l.types l.i l.bounds
