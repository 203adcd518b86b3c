-- `walk_hardest::harder` meets its contract.
use native.Mathlib.Omega.{arith}
use Rattle.walk_hardest.proofs.Holding.{takes-later, keeps-best}
use Rattle.walk_hardest.proofs.harder.Goals as goal

pub returns-then-best-time : goal.returns-then-best-time
returns-then-best-time c = let h = c.if-best-time.true in takes-later _ _ _ (omega arith)

pub returns : goal.returns
returns c = let h = c.if-best-time.false in keeps-best _ _ _ (omega arith)
