-- `walk_period_week::same` meets its contract: by its test. Assumes nothing.
use Rattle.walk_period_week.proofs.Finding.{same-seconds, other-nanos}
use Rattle.walk_period_week.proofs.same.Goals as goal

pub returns-then-a-b : goal.returns-then-a-b
returns-then-a-b c = same-seconds _ _ _ _ c.if-a-b.true

pub returns : goal.returns
returns c = other-nanos _ _ _ _ c.if-a-b.false c.requires.0 c.requires.1
