-- `zone_tzif_block::times_rise` meets its contract.
use Rattle.std.proofs.Common.{arith}
use Rattle.zone_tzif_block.specs.Parts.{key_at}
use Rattle.big_endian.proofs.Walk.{all_none, rise-no, rise-yes, all_end}
use Rattle.zone_tzif_block.proofs.times_rise.Goals as goal

pub returns-then-n-eq0 : goal.returns-then-n-eq0
returns-then-n-eq0 c = search all_none

pub returns-then-last-next : goal.returns-then-last-next
returns-then-last-next c = rise-no (key_at _ _) c.loop-i-test.true c.loop-i.invariant.1 c.loop-i.invariant.0 c.key_at-next.ensures (omega (arith, c.if-last-next.true))

pub loop-i-preserved : goal.loop-i-preserved
loop-i-preserved c = (c.key_at-next.ensures, rise-yes (key_at _ _) c.loop-i-test.true c.loop-i.invariant.1 c.loop-i.invariant.0 c.key_at-next.ensures (omega (arith, c.if-last-next.false)))

pub returns : goal.returns
returns c = search all_end
