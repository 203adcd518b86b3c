use Rattle.std.proofs.Common.{◌≡◌, arith}
use Rattle.block_pairs.proofs.Cutting.{cut-starts, cut-runs-out, cut-past, cut-stops, cut-ends, cut_on}
use Rattle.block_pairs.proofs.cut_into.Goals.{then-from-b+else-e-a+else-e-b, else-from-b}
use Rattle.block_pairs.proofs.cut_into.Goals as goal

pub loop-k-init : goal.loop-k-init
loop-k-init c = cut-starts _ _ _ _ _ _ _ c.requires.0 c.requires.1

pub returns-then-e-a : goal.returns-then-e-a
returns-then-e-a c = cut-stops _ _ _ _ _ _ _ _ _ _ _ c.loop-k.invariant c.loop-k-test.true c.if-from-b.true c.if-e-a.true _ _ c.emit.ensures.0 c.emit.ensures.1 c.emit.ensures.2

pub returns-then-e-b : goal.returns-then-e-b
returns-then-e-b c = cut-ends _ _ _ _ _ _ _ _ _ _ _ c.loop-k.invariant c.loop-k-test.true c.if-from-b.true c.if-e-a.false _ _ c.emit-n.ensures.0 c.emit-n.ensures.1 c.emit-n.ensures.2 c.if-e-b.true

pub loop-k-preserved : goal.loop-k-preserved
loop-k-preserved c = elim c.if-from-b.branch [
  | then-from-b+else-e-a+else-e-b w ↦ rw (w.out-is, w.from-is, w.n-is) (cut_on _ _ _ _ _ _ _ _ _ _ _ c.loop-k.invariant c.loop-k-test.true w.if-from-b.true w.if-e-a.false _ _ w.emit-n.ensures.0 w.emit-n.ensures.1 w.emit-n.ensures.2 w.if-e-b.false)
  | else-from-b w ↦ rw (w.out-is, w.from-is, w.n-is) (cut-past _ _ _ _ _ _ _ _ _ _ _ c.loop-k.invariant c.loop-k-test.true w.if-from-b.false)
]

pub returns : goal.returns
returns c =
    let k : c.loop-k.k ≡ c.args.m = omega (arith, c.loop-k.invariant.upto) in
    rw k at (cut-runs-out _ _ _ _ _ _ _ _ _ _ _ c.loop-k.invariant c.loop-k-test.false _ _ c.emit-2.ensures.0 c.emit-2.ensures.1 c.emit-2.ensures.2)
