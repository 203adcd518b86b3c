-- The blocks in front of i are taken whole, and those of `off` in front of j take nothing of the others.
use Rattle.std.proofs.Common.{◌+◌, ◌-◌, length}
use Rattle.build_check.proofs.Lefts.{Passing}
use Rattle.build_check.proofs.any_left.Given as goal

abbrev pub invariant-loop-i : goal.invariant-loop-i
invariant-loop-i l = Passing l.on l.off l.i l.j

abbrev pub decreases-loop-i : goal.decreases-loop-i
decreases-loop-i l = (length l.on - l.i) + (length l.off - l.j)
