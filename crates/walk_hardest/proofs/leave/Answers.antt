-- `walk_hardest::leave` meets its contract.
use Rattle.walk_hardest.proofs.Holding.{first-held, first-left}
use Rattle.walk_hardest.proofs.leave.Goals as goal

pub overflow_sub-result : goal.overflow_sub-result
overflow_sub-result c = first-held _ _ _ c.requires.0 _ c.requires.1 _ c.requires.2 c.if-held-i.false

pub returns : goal.returns
returns c = first-left _ _ _ c.requires.0 _ c.requires.1 _ c.requires.2 c.if-held-i.false
