-- `walk_hardest::hardest_by` meets its contract.
use Rattle.rule.specs.Rules.{schedule_is}
use Rattle.walk_hardest.proofs.Going.{Going}
use Rattle.walk_hardest.proofs.hardest_by.Given as goal

abbrev pub invariant-loop-i : goal.invariant-loop-i
invariant-loop-i l = Going (schedule_is l.book l.pack l.s) l.t l.log l.width l.whole l.i l.held l.best
