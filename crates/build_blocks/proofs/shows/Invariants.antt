-- `build_blocks::shows` meets its contract. Assumes nothing.
use Rattle.model.specs.DayNumber.{day_of}
use Rattle.instant.specs.Instant.{nanos}
use Rattle.rule.specs.Rules.{rule_is}
use Rattle.build_blocks.proofs.Any.{Passed}
use Rattle.build_blocks.proofs.shows.Given as goal

abbrev pub invariant-loop-k : goal.invariant-loop-k
invariant-loop-k l = Passed (rule_is l.pack l.r) (nanos l.lo) (nanos l.hi) (day_of l.first) l.count l.k
