use Rattle.std.proofs.Common.{arith, false, refl}
use Rattle.laws_base.specs.Test.{clash}
use Rattle.rule.specs.Rules.{RuleFits}
use Rattle.window_dates.proofs.Fill.{zone-moved}
use Rattle.window_marks.proofs.Taken.{every-at}
use Rattle.window_marks.proofs.Steady.{keeping-starts, keeping-turn, keeping-all, steady-rule}
use Rattle.window_marks.proofs.are_shifts_steady.Goals as goal

pub loop-r-init : goal.loop-r-init
loop-r-init c = keeping-starts _ _ _ _ (omega arith)

pub one_offset-requires : goal.one_offset-requires
one_offset-requires c = (zone-moved _ _ _ c.part.ensures (every-at (RuleFits _) _ _ _ c.loop-r-test.true c.requires.0).opened, c.requires.1, c.requires.2)

pub returns-then-one_offset-eq0 : goal.returns-then-one_offset-eq0
returns-then-one_offset-eq0 c = λ e. clash false e refl

pub loop-r-preserved : goal.loop-r-preserved
loop-r-preserved c = keeping-turn _ _ _ _ _ c.loop-r.invariant c.loop-r-test.true _ (steady-rule _ _ _ _ _ _ c.part.ensures (every-at (RuleFits _) _ _ _ c.loop-r-test.true c.requires.0) c.one_offset.ensures (omega (arith, c.if-one_offset-eq0.false)))

pub returns : goal.returns
returns c = λ e. keeping-all _ _ _ _ c.loop-r.invariant c.loop-r-test.false
