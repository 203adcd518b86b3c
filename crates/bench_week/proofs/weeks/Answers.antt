use native.Mathlib.Omega.{arith}
use Rattle.laws_base.specs.Mapped.{none_done, one-done, all_done}
use Rattle.bench_week.proofs.weeks.Goals as goal

pub loop-x-init : goal.loop-x-init
loop-x-init c = none_done _ _

pub loop-x-preserved : goal.loop-x-preserved
loop-x-preserved c = one-done _ _ c.loop-x.invariant (omega arith) c.week.ensures

pub returns : goal.returns
returns c = all_done _ _ c.loop-x.invariant (omega arith)
