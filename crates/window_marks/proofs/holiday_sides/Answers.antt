use Rattle.std.proofs.Common.{arith}
use Rattle.rule.specs.Rules.{HolidaysFit}
use Rattle.window_marks.proofs.Taken.{holiday-fits, holiday-sides, closed-sides, every-at}
use Rattle.window_marks.proofs.Filling.{folding-starts, folding-turn, sides-done}
use Rattle.window_marks.proofs.holiday_sides.Goals as goal

pub loop-c-init : goal.loop-c-init
loop-c-init c = folding-starts _ _ _ _ _ _ (c.no_sides-sides.ensures _ _) (omega arith)

pub rule_sides-requires : goal.rule_sides-requires
rule_sides-requires c = (holiday-fits _ _ _ c.of_holidays.ensures (every-at (HolidaysFit _ _) _ _ _ c.loop-c-test.true c.requires.0), c.requires.1)

pub loop-c-preserved : goal.loop-c-preserved
loop-c-preserved c = folding-turn _ _ _ _ _ _ _ c.loop-c.invariant c.loop-c-test.true _ _ _ (holiday-sides _ _ _ _ _ _ c.of_holidays.ensures c.rule_sides.ensures) c.both_sides-sides.ensures

pub returns : goal.returns
returns c = closed-sides _ _ c.args.closed.now _ _ _ (sides-done _ _ _ _ _ _ c.loop-c.invariant c.loop-c-test.false)
