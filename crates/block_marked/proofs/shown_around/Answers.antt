use Rattle.instant.specs.Instant.{nanos}
use Rattle.block_marked.proofs.Scan.{scan-starts, scan-turn, scan-done}
use Rattle.block_marked.proofs.shown_around.Goals as goal

pub loop-x-init : goal.loop-x-init
loop-x-init c = scan-starts _ _ _ (c.nothing_shown-a.ensures (nanos c.args.u))

pub loop-x-preserved : goal.loop-x-preserved
loop-x-preserved c = scan-turn _ _ _ _ c.loop-x.invariant c.loop-x-test.true _ _ c.around_block.ensures _ c.together-a.ensures

pub returns : goal.returns
returns c = scan-done _ _ _ _ c.loop-x.invariant c.loop-x-test.false
