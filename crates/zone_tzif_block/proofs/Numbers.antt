-- A transition's time: eight bytes in two's complement, as the code turns them into an unsigned number.
use mathlib.Core.Path.{◌≡◌}
use mathlib.Core.List.{List}
use Prim.Native.Nat.{ℕ, ◌+◌, ◌*◌}
use native.Mathlib.Omega.{arith}
use Rattle.model.specs.Bytes.{lifted}
use Rattle.big_endian.specs.Be.{be64}
use Rattle.zone_tzif_block.specs.Parts.{key_at}

pub key_is : (f : List ℕ) (b i : ℕ) {v r : ℕ} → v ≡ be64 f (b + 8 * i) → r ≡ lifted 8 v → r ≡ key_at f b i
unfolding key_at
key_is f b i e h = omega arith
