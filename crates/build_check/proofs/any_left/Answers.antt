use Rattle.build_check.proofs.Lefts.{passing-starts, passing-done, passing-free, passing-past, passing-left, passing-gone}
use Rattle.build_check.proofs.any_left.Goals as goal

pub loop-i-init : goal.loop-i-init
loop-i-init c = passing-starts _ _

pub returns-then-off-j : goal.returns-then-off-j
returns-then-off-j c = passing-free _ _ _ _ c.loop-i.invariant c.loop-i-test.true c.requires.0 c.if-off-j.true

pub loop-i-preserved-then-y-x : goal.loop-i-preserved-then-y-x
loop-i-preserved-then-y-x c = passing-past _ _ _ _ c.loop-i.invariant c.loop-i-test.true c.requires.0 c.if-off-j.false c.requires.1 c.if-y-x.true

pub loop-i-preserved : goal.loop-i-preserved
loop-i-preserved c = passing-gone _ _ _ _ c.loop-i.invariant c.loop-i-test.true c.requires.0 c.if-off-j.false c.requires.1 c.if-y-x.false _ c.covers.ensures c.if-covers.true

pub returns-else-covers : goal.returns-else-covers
returns-else-covers c = passing-left _ _ _ _ c.loop-i.invariant c.loop-i-test.true c.requires.0 c.if-off-j.false c.requires.1 c.if-y-x.false _ c.covers.ensures c.if-covers.false

pub returns : goal.returns
returns c = passing-done _ _ _ _ c.loop-i.invariant c.loop-i-test.false
