-- `walk_distance::is_week` meets its contract: by its test. Assumes nothing.
use Rattle.walk_distance.proofs.WholeWeeks.{week-test, no-week}
use Rattle.walk_distance.proofs.is_week.Goals as goal

pub returns-then-y-x : goal.returns-then-y-x
returns-then-y-x c = week-test c.args.x.sec c.args.x.ns c.args.y.sec c.args.y.ns c.if-y-x.true

pub returns : goal.returns
returns c = no-week c.args.x.sec c.args.x.ns c.args.y.sec c.args.y.ns c.if-y-x.false c.requires.0.ns c.requires.1.ns
