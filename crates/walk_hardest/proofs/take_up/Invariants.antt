-- `walk_hardest::take_up` meets its contract.
use Rattle.walk_hardest.specs.Held.{HoldsRuns}
use Rattle.walk_hardest.proofs.take_up.Given as goal

abbrev pub invariant-loop-next : goal.invariant-loop-next
invariant-loop-next l = HoldsRuns l.log l.width l.whole l.i (record { next = l.next; time = l.time })
