-- What the rules in front of the present one show.
use Rattle.std.proofs.Common.{length}
use Rattle.window_marks.proofs.Filling.{Folding}
use Rattle.rule.specs.Rules.{rule_is}
use Rattle.window_marks.proofs.shift_sides.Given as goal

abbrev pub invariant-loop-r : goal.invariant-loop-r
invariant-loop-r l = Folding l.a l.b (rule_is l.pack) (length l.rules) l.rules l.sides l.r-index
