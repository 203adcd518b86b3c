-- How many numbers of a stretch pass a test W. For working time, the numbers are nanoseconds.
use Rattle.std.specs.Prelude.{◌≡◌, Bool, true, false}
use Prim.Native.Nat.{ℕ, zero, suc, ◌+◌, ◌-◌, ◌≤◌}
use Rattle.std.proofs.Common.{add-zero, add-suc}
use Rattle.std.proofs.Math.Nat.{add_assoc}
use native.Mathlib.Omega.{arith}

abbrev pub bit : Bool → ℕ
bit true = 1
bit false = 0

bit-most : (b : Bool) → bit b ≤ 1
bit-most true = omega arith
bit-most false = omega arith

-- of the n numbers from a on
unfoldable pub cnt : (ℕ → Bool) → ℕ → ℕ → ℕ
cnt W a zero = 0
cnt W a (suc n) = cnt W a n + bit (W (a + n))

-- of [a, b)
unfoldable pub span : (ℕ → Bool) → ℕ → ℕ → ℕ
span W a b = cnt W a (b - a)

module _ (W : ℕ → Bool) where
  cnt-add : (a m n : ℕ) → cnt W a (m + n) ≡ cnt W a m + cnt W (a + m) n
  unfolding cnt
  cnt-add a m zero = rw (add-zero, add-zero)
  cnt-add a m (suc n) = rw (add-suc, cnt-add a m n, add_assoc a m n) (omega arith)

  pub span-add : (a b c : ℕ) → a ≤ b → b ≤ c → span W a c ≡ span W a b + span W b c
  unfolding span
  span-add a b c h k =
      let e : c - a ≡ (b - a) + (c - b) = omega arith in
      let f : a + (b - a) ≡ b = omega arith in
      rw (e, cnt-add a (b - a) (c - b), f)

  pub span-self : (a : ℕ) → span W a a ≡ 0
  unfolding span cnt
  span-self a = let e : a - a ≡ 0 = omega arith in rw e

  pub span-one : (a : ℕ) → span W a (suc a) ≡ bit (W a)
  unfolding span cnt
  span-one a = let e : suc a - a ≡ 1 = omega arith in rw (e, add-zero) (omega arith)

  pub cnt-most : (a n : ℕ) → cnt W a n ≤ n
  unfolding cnt
  cnt-most a zero = omega arith
  cnt-most a (suc n) = let h = cnt-most a n in let k = bit-most (W (a + n)) in omega arith
