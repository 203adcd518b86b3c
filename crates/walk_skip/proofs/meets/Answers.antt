-- `walk_skip::meets` meets its contract: by its two ways.
use Rattle.walk_skip.proofs.Near.{met-on, met-behind}
use Rattle.walk_skip.proofs.meets.Goals as goal

pub returns-then-back : goal.returns-then-back
returns-then-back c = met-behind c.ranges.a c.ranges.b c.if-back.true c.precedes.ensures

pub returns : goal.returns
returns c = met-on c.ranges.a c.ranges.b c.if-back.false c.precedes-2.ensures
