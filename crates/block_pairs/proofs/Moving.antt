-- Numbers moved on or back by one copy.
use Rattle.std.specs.List.{CopiedTo, SameBelow}
use mathlib.Core.Path.{◌≡◌, refl, ◌∙◌, ap}
use mathlib.Core.List.{List}
use Prim.Native.Nat.{ℕ, ◌+◌, ◌-◌}
use native.Mathlib.Omega.{arith}
use lib.ListN.{length, get_or}
use Rattle.block_pairs.specs.Pairs.{Raised, Lowered}

pub raised : (l r : List ℕ) (a b : ℕ) → length r ≡ length l → CopiedTo l r a (a + 2) (b - a) → SameBelow l r (a + 2) → Raised l r a b
raised l r a b h c s = record {
  long = h;
  low = λ x u. s x 0 (omega arith);
  high = λ x u v. c (x + 2) 0 (omega arith) (omega arith) ∙ ap (λ (k : ℕ). get_or l k 0) (omega arith);
}

pub lowered : (l r : List ℕ) (t a n : ℕ) → length r ≡ length l → CopiedTo l r a t n → SameBelow l r t → Lowered l r t a n
lowered l r t a n h c s = record {
  long = h;
  low = λ x u. s x 0 u;
  high = λ x u. c (t + x) 0 (omega arith) (omega arith) ∙ ap (λ (k : ℕ). get_or l k 0) (omega arith);
}

-- numbers that stand where they are to stand
pub stands : (l : List ℕ) (t a n : ℕ) → t ≡ a → Lowered l l t a n
stands l t a n e = record { long = refl; low = λ x h. refl; high = λ x h. ap (λ (k : ℕ). get_or l (k + x) 0) e }
