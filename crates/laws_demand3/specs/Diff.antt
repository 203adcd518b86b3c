-- Integers as differences of natural numbers, so that `omega` serves for them: each sum, negation, multiple and order of differences is one of
-- natural numbers.
use Rattle.std.specs.Prelude.{◌≡◌, refl, ℕ, zero, suc, ◌+◌, ◌-◌, ◌*◌, ◌≤◌, ◌<◌, leb, ℤ, pos, negsuc, neg_ℤ, ◌+ℤ◌, ◌*ℤ◌, ◌≤ℤ◌}
use Rattle.std.proofs.Common.{sym, ap, ◌∙◌, arith, leb→le, le→leb, lt-ltb, le-ltb, le-leb}
use Rattle.std.proofs.Math.Decide.{dec_le}
use Rattle.std.proofs.Math.IntN.{sub_ℕ}
use Rattle.std.specs.Int.Signed.{le_z, le_z_yes}
use Rattle.std.proofs.lemmas.Bool.{lt-leb}
use Rattle.laws_base.specs.Test.{never}

-- a - b
unfoldable pub diff : ℕ → ℕ → ℤ
diff a b = sub_ℕ a b

pub diff-nat : (a b : ℕ) → b ≤ a → diff a b ≡ pos (a - b)
unfolding diff
diff-nat a b h = simp (le-ltb _ _ h)

pub diff-neg : (a b : ℕ) → a < b → diff a b ≡ negsuc (b - suc a)
unfolding diff
diff-neg a b h = simp (lt-ltb _ _ h)

-- a difference is of one of two forms
pub data Form (a b : ℕ) : ℤ → Type 0 where
  nat : (n : ℕ) → a ≡ b + n → Form a b (pos n)
  neg : (n : ℕ) → b ≡ a + suc n → Form a b (negsuc n)

pub form : (a b : ℕ) → Form a b (diff a b)
form a b = go (dec_le b a)
  where
    go : Dec (b ≤ a) → Form a b (diff a b)
    go (yes h) = rw (diff-nat a b h) (nat (a - b) (omega arith))
    go (no f) = rw (diff-neg a b (omega arith)) (neg (b - suc a) (omega arith))

-- a number that has the form is the difference
pub nat-is-diff : (a b n : ℕ) → a ≡ b + n → pos n ≡ diff a b
nat-is-diff a b n h = sym (diff-nat a b (omega arith) ∙ ap pos (omega arith))

pub neg-is-diff : (a b n : ℕ) → b ≡ a + suc n → negsuc n ≡ diff a b
neg-is-diff a b n h = sym (diff-neg a b (omega arith) ∙ ap negsuc (omega arith))

-- two differences are equal where the sums are
pub diff-same : (a b c d : ℕ) → a + d ≡ c + b → diff a b ≡ diff c d
diff-same a b c d h = go (form a b)
  where
    go : {z : ℤ} → Form a b z → z ≡ diff c d
    go (nat n e) = nat-is-diff c d n (omega arith)
    go (neg n e) = neg-is-diff c d n (omega arith)

pub diff-add : (a b c d : ℕ) → diff a b +ℤ diff c d ≡ diff (a + c) (b + d)
unfolding diff
diff-add a b c d = go (form a b) (form c d)
  where
    go : {x y : ℤ} → Form a b x → Form c d y → x +ℤ y ≡ diff (a + c) (b + d)
    go (nat m e) (nat n f) = nat-is-diff (a + c) (b + d) (m + n) (omega arith)
    go (nat m e) (neg n f) = diff-same m (suc n) (a + c) (b + d) (omega arith)
    go (neg m e) (nat n f) = diff-same n (suc m) (a + c) (b + d) (omega arith)
    go (neg m e) (neg n f) = neg-is-diff (a + c) (b + d) (suc (m + n)) (omega arith)

pub neg-pos : (n : ℕ) → neg_ℤ (pos n) ≡ diff 0 n
neg-pos zero = nat-is-diff 0 0 0 refl
neg-pos (suc n) = neg-is-diff 0 (suc n) n (omega arith)

pub diff-mul : (a b k : ℕ) → diff a b *ℤ pos k ≡ diff (a * k) (b * k)
diff-mul a b k = go (form a b)
  where
    go : {x : ℤ} → Form a b x → x *ℤ pos k ≡ diff (a * k) (b * k)
    go (nat n e) = nat-is-diff (a * k) (b * k) (n * k) (rw e (omega arith))
    go (neg n e) = neg-pos (suc n * k) ∙ diff-same 0 (suc n * k) (a * k) (b * k) (rw e (omega arith))

pub diff-le : (a b c d : ℕ) → le_z (diff a b) (diff c d) ≡ leb (a + d) (c + b)
diff-le a b c d = go (form a b) (form c d)
  where
    same : (m n p q : ℕ) → (m ≤ n → p ≤ q) → (n < m → q < p) → leb m n ≡ leb p q
    same m n p q f g = elim (dec_le m n) [ yes h ↦ le-leb m n h ∙ sym (le-leb p q (f h)) | no h ↦ lt-leb m n (omega arith) ∙ sym (lt-leb p q (g (omega arith))) ]

    go : {x y : ℤ} → Form a b x → Form c d y → le_z x y ≡ leb (a + d) (c + b)
    go (nat m e) (nat n f) = same m n (a + d) (c + b) (λ h. omega arith) (λ h. omega arith)
    go (nat m e) (neg n f) = sym (lt-leb (a + d) (c + b) (omega arith))
    go (neg m e) (nat n f) = sym (le-leb (a + d) (c + b) (omega arith))
    go (neg m e) (neg n f) = same n m (a + d) (c + b) (λ h. omega arith) (λ h. omega arith)

-- every integer is a difference
unfoldable pub up : ℤ → ℕ
up (pos n) = n
up (negsuc n) = 0

unfoldable pub down : ℤ → ℕ
down (pos n) = 0
down (negsuc n) = suc n

pub as-diff : (z : ℤ) → z ≡ diff (up z) (down z)
unfolding up down
as-diff (pos n) = nat-is-diff n 0 n (omega arith)
as-diff (negsuc n) = neg-is-diff 0 (suc n) n (omega arith)

pub pos-diff : (n : ℕ) → pos n ≡ diff n 0
pos-diff n = nat-is-diff n 0 n (omega arith)

-- a natural number that is a difference
pub nat-diff : (a b n : ℕ) → pos n ≡ diff a b → a ≡ b + n
nat-diff a b n e = go (form a b) e
  where
    go : {z : ℤ} → Form a b z → pos n ≡ z → a ≡ b + n
    go (nat m f) e = let g : n ≡ m = cc in omega arith
    go (neg m f) e = never (cc)

-- orders of differences
pub le-diff : (a b c d : ℕ) → diff a b ≤ℤ diff c d → a + d ≤ c + b
le-diff a b c d h = leb→le (a + d) (c + b) (rw (diff-le a b c d) at h.le)

pub diff-order : (a b c d : ℕ) → a + d ≤ c + b → diff a b ≤ℤ diff c d
diff-order a b c d h = le_z_yes (rw (diff-le a b c d) (le→leb (a + d) (c + b) h))
