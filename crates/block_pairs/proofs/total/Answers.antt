use native.Mathlib.Omega.{arith}
use Rattle.block_pairs.proofs.Cutting.{sum-starts, sum-order, sum_below, sum-turn, sum_done}
use Rattle.block_pairs.proofs.total.Goals as goal

pub loop-i-init : goal.loop-i-init
loop-i-init c = sum-starts _ _ c.requires.1

pub overflow_sub-sum : goal.overflow_sub-sum
overflow_sub-sum c = sum-order _ _ _ _ c.loop-i.invariant c.loop-i-test.true

pub overflow_add-sum-in-loop-i : goal.overflow_add-sum-in-loop-i
overflow_add-sum-in-loop-i c = omega (arith, sum_below _ _ _ _ c.loop-i.invariant c.loop-i-test.true, c.requires.2)

pub loop-i-preserved : goal.loop-i-preserved
loop-i-preserved c = sum-turn _ _ _ _ c.loop-i.invariant c.loop-i-test.true

pub returns : goal.returns
returns c = sum_done _ _ _ _ c.loop-i.invariant c.loop-i-test.false
