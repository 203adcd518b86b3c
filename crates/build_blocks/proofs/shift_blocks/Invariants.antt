-- The blocks of the rules in front of the present one are in the list.
use Rattle.instant.specs.Instant.{nanos}
use Rattle.rule.specs.Rules.{rule_is}
use Rattle.build_blocks.proofs.Filling.{Ruling}
use Rattle.build_blocks.proofs.shift_blocks.Given as goal

abbrev pub invariant-loop-i : goal.invariant-loop-i
invariant-loop-i l = Ruling (nanos l.lo) (nanos l.hi) (rule_is l.pack) l.n l.rules l.out.items l.out.len l.i
