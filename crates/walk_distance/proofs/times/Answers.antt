-- `walk_distance::times` meets its contract: products of seconds and nanoseconds. Assumes nothing.
use Rattle.walk_distance.proofs.WholeWeeks.{nanos-fit}
use native.Mathlib.Omega.{arith}
use Rattle.walk_distance.proofs.times.Goals as goal

pub overflow_mul-ns : goal.overflow_mul-ns
overflow_mul-ns c = let p = nanos-fit (c.args.n) (c.args.x.ns) (c.requires.1) (c.requires.0) in omega arith
