-- `walk_period_marks::is_plain` meets its contract: all zones keep one offset around both ends. Assumes nothing.
use Rattle.walk_period_marks.proofs.Edges.{span-plain, span-range}
use Rattle.walk_distance.specs.Distances.{way_of}
use Rattle.instant.specs.Instant.{nanos}
use native.Mathlib.Omega.{arith}
use Rattle.walk_period_marks.proofs.is_plain.Goals as goal

pub ends_of-ends-requires : goal.ends_of-ends-requires
ends_of-ends-requires c = (c.requires.1, c.requires.2)

pub is_steady-requires : goal.is_steady-requires
is_steady-requires c = let r = span-range c.ends_of-ends.ensures in (c.requires.0, r.0, r.1)

pub returns : goal.returns
returns c = λ g. span-plain (way_of c.args.back) _ (nanos c.args.t) (nanos c.args.f) (nanos c.args.e) (omega (arith, c.requires.1.low)) (omega (arith, c.requires.1.high, c.requires.1.ns)) c.requires.2.order c.requires.2.near c.ends_of-ends.ensures (c.is_steady.ensures g)
