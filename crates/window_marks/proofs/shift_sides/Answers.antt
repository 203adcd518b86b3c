use Rattle.std.proofs.Common.{arith}
use Rattle.rule.specs.Rules.{RuleFits}
use Rattle.window_marks.proofs.Taken.{shift_fits, shift-sides, every-at}
use Rattle.window_marks.proofs.Filling.{folding-starts, folding-turn, sides-done}
use Rattle.window_marks.proofs.shift_sides.Goals as goal

pub loop-r-init : goal.loop-r-init
loop-r-init c = folding-starts _ _ _ _ _ _ (c.no_sides-sides.ensures _ _) (omega arith)

pub rule_sides-requires : goal.rule_sides-requires
rule_sides-requires c = (shift_fits _ _ _ c.of_shift.ensures (every-at (RuleFits _) _ _ _ c.loop-r-test.true c.requires.0), c.requires.1)

pub loop-r-preserved : goal.loop-r-preserved
loop-r-preserved c = folding-turn _ _ _ _ _ _ _ c.loop-r.invariant c.loop-r-test.true _ _ _ (shift-sides _ _ _ _ _ _ c.of_shift.ensures c.rule_sides.ensures) c.both_sides-sides.ensures

pub returns : goal.returns
returns c = sides-done _ _ _ _ _ _ c.loop-r.invariant c.loop-r-test.false
