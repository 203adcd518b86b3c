-- `walk_list_week::finish` meets its contract.
use mathlib.Core.Path.{ap}
use native.Mathlib.Omega.{arith}
use Rattle.walk_list_week.specs.Stretched.{open_of}
use Rattle.walk_list_week.proofs.Turns.{none_open, one-room, one-open}
use Rattle.walk_list_week.proofs.finish.Goals as goal

pub returns-in_default : goal.returns-in_default
returns-in_default c = none_open _ _ _ _ (ap open_of c.in_default.is)

pub put-requires : goal.put-requires
put-requires c = (one-room _ _ _ _ _ (ap open_of c.in-Some.is) c.requires.2, rw c.in-Some.is at c.requires.0)

pub returns : goal.returns
returns c = one-open _ _ _ _ _ (ap open_of c.in-Some.is) c.put.ensures
