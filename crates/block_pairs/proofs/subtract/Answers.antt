use native.Mathlib.Omega.{arith}
use Rattle.block_pairs.proofs.Cutting.{subtract-starts, subtract-order, subtract-turn, subtract-done}
use Rattle.block_pairs.proofs.subtract.Goals as goal

pub loop-i-init : goal.loop-i-init
loop-i-init c = subtract-starts _ _ _ _ _ c.requires.0

pub cut_into-c-requires : goal.cut_into-c-requires
cut_into-c-requires c = (subtract-order _ _ _ _ _ _ _ _ _ c.loop-i.invariant c.loop-i-test.true, c.loop-i.invariant.gaps, c.requires.2, omega (arith, c.loop-i.invariant.long, c.loop-i.invariant.count, c.loop-i.invariant.gaps, c.requires.3))

pub loop-i-preserved : goal.loop-i-preserved
loop-i-preserved c = subtract-turn _ _ _ _ _ _ _ _ _ c.loop-i.invariant c.loop-i-test.true _ _ _ c.cut_into-c.ensures

pub returns : goal.returns
returns c = (subtract-done _ _ _ _ _ _ _ _ _ c.loop-i.invariant c.loop-i-test.false, omega (arith, c.loop-i.invariant.count, c.loop-i.invariant.gaps, c.loop-i.invariant.within), c.loop-i.invariant.long)
