-- `schedule_listing::at_most` meets its contract.
use Rattle.schedule_listing.proofs.Bound.{none-begun, some-begun, product-fits}
use Rattle.instant.specs.Instant.{nanos}
use Prim.Native.Nat.{◌+◌, ◌*◌, ◌-◌, ◌/◌}
use native.Mathlib.Omega.{arith}
use Rattle.schedule_listing.proofs.at_most.Goals as goal

pub returns-then-b-a : goal.returns-then-b-a
returns-then-b-a c = none-begun (nanos c.args.b - nanos c.args.a) (14 * c.args.rules) (let h = c.requires.1.ns in let g = c.requires.2.ns in omega arith)

pub overflow_mul-result-2 : goal.overflow_mul-result-2
overflow_mul-result-2 c = let r = c.requires.0 in let h = c.requires.1.low in let g = c.requires.2.high in let x = product-fits ((c.args.b.sec - c.args.a.sec) / 604800 + 1) (14 * c.args.rules) (omega arith) (omega arith) in record { fits = omega arith }

pub returns : goal.returns
returns c = some-begun (nanos c.args.b - nanos c.args.a) (c.args.b.sec - c.args.a.sec) (14 * c.args.rules) (let h = c.requires.1.ns in let g = c.requires.2.ns in omega arith)
