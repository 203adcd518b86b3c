-- `big_endian::eight_at` meets its contract.
use mathlib.Core.Path.{◌≡◌}
use Prim.Native.Nat.{◌+◌}
use native.Mathlib.Omega.{arith}
use Rattle.big_endian.specs.Be.{be32, be64}
use Rattle.big_endian.proofs.eight_at.Goals as goal

pub returns : goal.returns
unfolding be32 be64
returns c =
    let a : c.args.i + 4 + 1 ≡ c.args.i + 5 = omega arith in
    let b : c.args.i + 4 + 2 ≡ c.args.i + 6 = omega arith in
    let d : c.args.i + 4 + 3 ≡ c.args.i + 7 = omega arith in
    rw (a, b, d) (omega (arith, c.from_be_bytes.ensures))
