-- `block_pairs::ended` meets its contract. Assumes nothing.
use Prim.Native.Nat.{◌-◌, ◌≤◌}
use Rattle.block_pairs.specs.Pairs.{part, Reach}
use Rattle.block_pairs.proofs.ended.Given as goal

abbrev pub invariant-loop-i : goal.invariant-loop-i
invariant-loop-i l = (l.i ≤ l.n) × Reach l.s (part l.i (l.n - l.i) l.l)
