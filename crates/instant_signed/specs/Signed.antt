-- Signed numbers of 64 bits as natural numbers that are 2^63 more.
use Rattle.std.specs.Prelude.{◌≡◌, refl, true, false, ℕ, zero, suc, ◌+◌, ◌-◌, ◌^◌, ◌≤◌, ◌<◌, ℤ, pos, negsuc, neg_ℤ, ◌+ℤ◌, ◌-ℤ◌, nat_abs}
use Rattle.std.proofs.Common.{sym, ap, ap₂, ◌∙◌, arith, SFits, to_z, of_z, to_z-of_z, ltb-true, lt-ltb, le-ltb}
use Rattle.std.proofs.Math.IntN.{sub_ℕ}
use Rattle.std.specs.Int.Signed.{lt_z}
use Rattle.std.specs.Int.{w64}
use Rattle.laws_base.specs.Test.{clash}

-- z + 2^63
unfoldable pub biased : ℤ → ℕ
biased z = nat_abs (z +ℤ pos (2 ^ 63))

-- k - 2^63
unfoldable pub unbiased : ℕ → ℤ
unbiased k = pos k -ℤ pos (2 ^ 63)

-- a signed number is the one that its 64 bits stand for
pub by_bits : {A : Type 0} {r : A} (g : ℤ → A) {z : ℤ} → SFits w64 z → r ≡ g (to_z w64 (of_z w64 z)) → r ≡ g z
by_bits g f e = e ∙ ap g (to_z-of_z f)

pub by-bits₂ : {A : Type 0} {r : A} (g : ℤ → ℤ → A) {y z : ℤ} → SFits w64 y → SFits w64 z → r ≡ g (to_z w64 (of_z w64 y)) (to_z w64 (of_z w64 z)) → r ≡ g y z
by-bits₂ g e f h = h ∙ ap₂ g (to_z-of_z e) (to_z-of_z f)

-- a difference of two natural numbers
pub sub-nat : (a b : ℕ) → b ≤ a → sub_ℕ a b ≡ pos (a - b)
sub-nat a b h = simp (le-ltb _ _ h)

pub sub-neg : (a b : ℕ) → a < b → sub_ℕ a b ≡ negsuc (b - suc a)
sub-neg a b h = simp (lt-ltb _ _ h)

-- what a test of the sign tells
pub data IsNeg : ℤ → Type 0 where
  below : (n : ℕ) → n < 2 ^ 63 → IsNeg (negsuc n)

pub data IsNat : ℤ → Type 0 where
  above : (n : ℕ) → n < 2 ^ 63 → IsNat (pos n)

pub is-neg : (z : ℤ) → SFits w64 z → lt_z z (pos 0) ≡ true → IsNeg z
is-neg (pos n) f e = absurd (omega (arith, ltb-true n 0 e))
is-neg (negsuc n) f e = below n f.sfits

pub is-nat : (z : ℤ) → SFits w64 z → lt_z z (pos 0) ≡ false → IsNat z
is-nat (pos n) f e = above n f.sfits
is-nat (negsuc n) f e = clash true refl e

-- the offset by the sign
pub biased-minus : (n : ℕ) → n < 2 ^ 63 → biased (negsuc n) ≡ 2 ^ 63 - suc n
unfolding biased
biased-minus n h = ap nat_abs (sub-nat (2 ^ 63) (suc n) h)

pub biased-plus : (n : ℕ) → biased (pos n) ≡ n + 2 ^ 63
unfolding biased
biased-plus n = refl

-- a number below 0, less the least
pub biased-neg : {z : ℤ} → IsNeg z → (z -ℤ negsuc 9223372036854775807 ≡ pos (biased z)) × (biased z < 2 ^ 63)
biased-neg (below n h) = (sub-nat 9223372036854775808 (suc n) h ∙ ap pos (sym (biased-minus n h)), omega (arith, biased-minus n h))

pub biased-nat : {z : ℤ} → IsNat z → (z ≡ pos (nat_abs z)) × ((nat_abs z < 2 ^ 63) × (nat_abs z + 2 ^ 63 ≡ biased z))
biased-nat (above n h) = (refl, (h, sym (biased-plus n)))

-- and back: unbiased k is below 0 for a k below 2^63
pub unbiased-low : (k : ℕ) → k < 2 ^ 63 → unbiased k ≡ negsuc (2 ^ 63 - suc k)
unfolding unbiased
unbiased-low k h = sub-neg k (2 ^ 63) h

pub unbiased-high : (k : ℕ) → 2 ^ 63 ≤ k → unbiased k ≡ pos (k - 2 ^ 63)
unfolding unbiased
unbiased-high k h = sub-nat k (2 ^ 63) h

-- and a number that is so much below or above 2^63
pub unbiased-less : (k : ℕ) → k ≤ 2 ^ 63 → unbiased (2 ^ 63 - k) ≡ neg_ℤ (pos k)
unbiased-less zero h = unbiased-high (2 ^ 63) (omega arith)
unbiased-less (suc k) h = unbiased-low (2 ^ 63 - suc k) (omega arith) ∙ ap negsuc (omega arith)

pub unbiased-more : (k : ℕ) → unbiased (2 ^ 63 + k) ≡ pos k
unbiased-more k = unbiased-high (2 ^ 63 + k) (omega arith) ∙ ap pos (omega arith)
