-- `walk_hardest::whole_times` meets its contract.
use Rattle.rule.specs.Rules.{schedule_is}
use Rattle.instant.specs.Instant.{nanos}
use Rattle.walk_hardest.specs.Held.{KnownTo}
use Rattle.walk_hardest.proofs.whole_times.Given as goal

abbrev pub invariant-loop-j : goal.invariant-loop-j
invariant-loop-j l = KnownTo (schedule_is l.book l.pack l.s) (nanos l.t) l.log l.width l.whole l.j
