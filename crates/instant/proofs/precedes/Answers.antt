-- `instant::precedes` meets its contract: in each case the test of the pairs agrees with that of the nanoseconds. Assumes nothing.
use Prim.Native.Nat.{◌+◌, ◌*◌, ◌-◌}
use Rattle.instant.specs.Instant.{nanos}
use Rattle.instant.proofs.Tests.{same-ltb}
use mathlib.Core.Path.{sym}
use native.Mathlib.Omega.{arith}
use borrow.Author.Tests.{lt-ltb, le-ltb}
use Rattle.instant.proofs.precedes.Goals as goal

pub returns-then-d-ge-CARRY : goal.returns-then-d-ge-CARRY
returns-then-d-ge-CARRY c =
    let a = c.args.a in
    let b = c.args.b in
    sym (lt-ltb (nanos a) (nanos b) (omega arith))

pub returns-then-d-ge-CARRY-2 : goal.returns-then-d-ge-CARRY-2
returns-then-d-ge-CARRY-2 c =
    let a = c.args.a in
    let b = c.args.b in
    sym (le-ltb (nanos a) (nanos b) (omega arith))

pub returns-else-d-ge-CARRY : goal.returns-else-d-ge-CARRY
returns-else-d-ge-CARRY c =
    let a = c.args.a in
    let b = c.args.b in
    same-ltb a.ns (b.ns + (b.sec - a.sec) * 1000000000) (nanos a) (nanos b) (λ h. omega arith) (λ h. omega arith)

pub returns-else-d-ge-CARRY-2 : goal.returns-else-d-ge-CARRY-2
returns-else-d-ge-CARRY-2 c =
    let a = c.args.a in
    let b = c.args.b in
    same-ltb (a.ns + (a.sec - b.sec) * 1000000000) b.ns (nanos a) (nanos b) (λ h. omega arith) (λ h. omega arith)
