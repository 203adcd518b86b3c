use Rattle.std.proofs.Common.{arith, false, refl}
use Rattle.laws_base.specs.Test.{clash}
use Rattle.rule.specs.Rules.{HolidaysFit}
use Rattle.window_dates.proofs.Fill.{zone-moved}
use Rattle.window_marks.proofs.Taken.{every-at}
use Rattle.window_marks.proofs.Steady.{keeping-starts, keeping-turn, keeping-all, steady-holiday, closed-every}
use Rattle.window_marks.proofs.are_holidays_steady.Goals as goal

pub loop-c-init : goal.loop-c-init
loop-c-init c = keeping-starts _ _ _ _ (omega arith)

pub one_offset-requires : goal.one_offset-requires
one_offset-requires c = (zone-moved _ _ _ c.part.ensures (every-at (HolidaysFit _ _) _ _ _ c.loop-c-test.true c.requires.0).opened, c.requires.1, c.requires.2)

pub returns-then-one_offset-eq0 : goal.returns-then-one_offset-eq0
returns-then-one_offset-eq0 c = λ e. clash false e refl

pub loop-c-preserved : goal.loop-c-preserved
loop-c-preserved c = keeping-turn _ _ _ _ _ c.loop-c.invariant c.loop-c-test.true _ (steady-holiday _ _ _ _ _ _ _ c.part.ensures (every-at (HolidaysFit _ _) _ _ _ c.loop-c-test.true c.requires.0) c.one_offset.ensures (omega (arith, c.if-one_offset-eq0.false)))

pub returns : goal.returns
returns c = λ e. closed-every _ _ _ c.args.closed.now (keeping-all _ _ _ _ c.loop-c.invariant c.loop-c-test.false)
