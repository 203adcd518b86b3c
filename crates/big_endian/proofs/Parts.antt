-- What lies past the end of a list.
use mathlib.Core.Path.{◌≡◌, sym}
use mathlib.Core.List.{List}
use Prim.Native.Nat.{ℕ, ◌+◌, ◌≤◌}
use native.Mathlib.Omega.{arith}
use lib.ListN.{length, get_or, get_or-eq_default}
use Rattle.big_endian.specs.Be.{be16, be32, be64}

pub past : (s : List ℕ) (i : ℕ) → length s ≤ i → 0 ≡ get_or s i 0
past s i h = sym (get_or-eq_default s 0 h)

pub be32-past : (s : List ℕ) (i : ℕ) → length s ≤ i → 0 ≡ be32 s i
unfolding be32
be32-past s i h =
    omega (arith, past s i h, past s (i + 1) (omega arith), past s (i + 2) (omega arith), past s (i + 3) (omega arith))

pub be16-past : (s : List ℕ) (i : ℕ) → length s ≤ i → 0 ≡ be16 s i
unfolding be16
be16-past s i h = omega (arith, past s i h, past s (i + 1) (omega arith))

pub be64-past : (s : List ℕ) (i : ℕ) → length s ≤ i → 0 ≡ be64 s i
unfolding be64
be64-past s i h = omega (arith, be32-past s i h, be32-past s (i + 4) (omega arith))
