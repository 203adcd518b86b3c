-- `build_blocks::any_shows` meets its contract: the rules in front of the present one show nothing. Assumes nothing.
use Rattle.instant.specs.Instant.{nanos}
use Rattle.rule.specs.Rules.{rule_is}
use Rattle.build_blocks.proofs.Any.{RulesPassed}
use Rattle.build_blocks.proofs.any_shows.Given as goal

abbrev pub invariant-loop-i : goal.invariant-loop-i
invariant-loop-i l = RulesPassed (nanos l.lo) (nanos l.hi) (rule_is l.pack) l.n l.rules l.i
