-- `walk_distance::reach` meets its contract: by its two ways. Assumes nothing.
use native.Mathlib.Omega.{arith}
use Rattle.walk_distance.proofs.reach.Goals as goal

pub returns-then-back : goal.returns-then-back
returns-then-back c = let e = c.difference.ensures.0 in (rw c.if-back.true e, record { sec = omega arith; ns = c.difference.ensures.1 })

pub returns : goal.returns
returns c = let e = c.difference-2.ensures.0 in (rw c.if-back.false e, record { sec = omega arith; ns = c.difference-2.ensures.1 })
