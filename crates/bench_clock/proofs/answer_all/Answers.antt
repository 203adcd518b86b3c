use Rattle.std.proofs.Common.{sym, ◌∙◌, arith}
use Rattle.bench_clock.proofs.Steps.{groups-on, groups_none}
use Rattle.bench_clock.proofs.answer_all.Goals as goal

pub loop-k-preserved : goal.loop-k-preserved
loop-k-preserved c = (groups-on _ _ _ _ _ c.loop-k-test.true c.answer_one.ensures c.loop-k.invariant.0, c.answer_one.auto.xs ∙ c.loop-k.invariant.1)

pub returns : goal.returns
returns c = sym (groups_none _ _ _ _ _ (omega arith)) ∙ c.loop-k.invariant.0
