-- `walk_distance::place` meets its contract: by its two ways. Assumes nothing.
use native.Mathlib.Omega.{arith}
use Prim.Native.Nat.{◌≤◌}
use Rattle.instant.specs.Instant.{nanos}
use Rattle.walk_distance.specs.Distances.{placed_on, placed-back}
use Rattle.walk_distance.proofs.place.Goals as goal

pub returns-then-back : goal.returns-then-back
returns-then-back c = let e = rw c.if-back.true at c.at-near.ensures.0 in let f = rw c.if-back.true at c.at-far.ensures.0 in let h = rw c.if-back.true at c.requires.1.near in let k : nanos c.args.y ≤ nanos c.args.t = omega arith in (record { low = c.at-far.ensures.1; high = c.at-near.ensures.1; order = omega arith; short = omega arith }, rw c.if-back.true (placed-back k f e))

pub returns : goal.returns
returns c = let e = rw c.if-back.false at c.at-near.ensures.0 in let f = rw c.if-back.false at c.at-far.ensures.0 in let h = rw c.if-back.false at c.requires.1.near in (record { low = c.at-near.ensures.1; high = c.at-far.ensures.1; order = omega arith; short = omega arith }, rw c.if-back.false (placed_on e f))
