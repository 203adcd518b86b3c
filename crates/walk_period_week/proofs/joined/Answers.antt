use Rattle.walk_distance.specs.Distances.{way_of}
use Rattle.walk_distance.proofs.Blocks.{rest-none}
use Rattle.walk_period_week.proofs.Finding.{tail-closed, tail-on, tail-open}
use Rattle.walk_period_week.proofs.joined.Goals as goal

pub returns-then-b-e : goal.returns-then-b-e
returns-then-b-e c = tail-closed _ _ _ c.loop-i.invariant _ _ _ c.nearest-b.ensures c.if-b-e.true

pub loop-i-preserved : goal.loop-i-preserved
loop-i-preserved c = tail-on _ _ _ c.loop-i.invariant _ _ _ c.nearest-b.ensures c.if-b-e.false

pub returns : goal.returns
returns c = tail-open _ _ _ c.loop-i.invariant (rest-none (way_of c.args.back) _ _ _ _ c.loop-i-test.false)
