-- What the dates in front of the present one show is in the list.
use Rattle.std.proofs.Common.{◌+◌}
use Rattle.model.specs.Basic.{run}
use Rattle.model.specs.DayNumber.{day_of}
use Rattle.instant.specs.Instant.{nanos}
use Rattle.rule.specs.Rules.{rule_is}
use Rattle.build_blocks.proofs.Filling.{Dating, with_dates}
use Rattle.build_blocks.proofs.rule_into.Given as goal

abbrev pub invariant-loop-k : goal.invariant-loop-k
invariant-loop-k l = Dating (rule_is l.pack l.r) (nanos l.lo) (nanos l.hi) (day_of l.first) l.count
    (with_dates (rule_is l.pack l.r) (nanos l.lo) (nanos l.hi) l.initial.out.items l.initial.out.len (run (day_of l.first) l.count)) (l.initial.out.len + l.count) l.out.items l.out.len l.k
