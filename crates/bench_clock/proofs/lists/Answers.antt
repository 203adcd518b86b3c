use Rattle.std.proofs.Common.{sym, ◌∙◌, arith}
use mir.Facts.{to_z-of_z}
use Rattle.bench_clock.proofs.Steps.{lists-on, lists-none}
use Rattle.bench_clock.proofs.lists.Goals as goal

pub loop-k-preserved : goal.loop-k-preserved
loop-k-preserved c = (lists-on _ _ _ _ _ _ _ _ c.loop-k-test.true c.list_in.ensures.1 c.loop-k.invariant.0, c.list_in.auto.out ∙ c.loop-k.invariant.1)

pub returns : goal.returns
returns c = rw (to_z-of_z c.ranges.a, to_z-of_z c.ranges.b, to_z-of_z c.ranges.c, to_z-of_z c.ranges.d) at (sym (lists-none _ _ _ _ _ _ _ (omega arith)) ∙ c.loop-k.invariant.0)
