-- `walk_distance::away` meets its contract: by its two ways. Assumes nothing.
use native.Mathlib.Omega.{arith}
use Rattle.walk_distance.proofs.away.Goals as goal

pub returns-then-back : goal.returns-then-back
returns-then-back c = let e = c.difference.ensures.0 in (rw c.if-back.true e, omega arith, c.difference.ensures.1)

pub returns : goal.returns
returns c = let e = c.sum.ensures.0 in (rw c.if-back.false e, omega arith, c.sum.ensures.1)
