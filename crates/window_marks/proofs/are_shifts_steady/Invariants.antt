-- If the rules from the present one on are steady, all are.
use Rattle.std.proofs.Common.{length}
use Rattle.window_marks.proofs.Steady.{Keeping}
use Rattle.instant.specs.Instant.{nanos}
use Rattle.laws_marks.specs.Plain.{SteadyIn}
use Rattle.rule.specs.Rules.{rule_is}
use Rattle.window_marks.proofs.are_shifts_steady.Given as goal

abbrev pub invariant-loop-r : goal.invariant-loop-r
invariant-loop-r l = Keeping (SteadyIn (nanos l.a) (nanos l.b)) (rule_is l.pack) (length l.rules) l.rules l.r-index
