-- Sums by index: a list's sum, and sums whose terms agree or are none between two indices.
use Rattle.std.specs.Prelude.{◌≡◌, refl, List, [], ◌∷◌, map, length, get_or}
use Prim.Native.Nat.{ℕ, zero, suc, ◌+◌, ◌≤◌, ◌<◌}
use native.Mathlib.Omega.{arith}
use Rattle.std.proofs.Math.Decide.{dec_le}
use Rattle.model.specs.Basic.{sum}

-- f 0 + .. + f (n - 1)
unfoldable pub sum_to : (ℕ → ℕ) → ℕ → ℕ
sum_to f zero = 0
sum_to f (suc n) = sum_to f n + f n

pub sum_to-next : (f : ℕ → ℕ) (n : ℕ) → sum_to f (suc n) ≡ sum_to f n + f n
unfolding sum_to
sum_to-next f n = refl

sum_to-front : (f : ℕ → ℕ) (n : ℕ) → sum_to f (suc n) ≡ f 0 + sum_to (λ j. f (suc j)) n
unfolding sum_to
sum_to-front f zero = omega arith
sum_to-front f (suc n) = let h = sum_to-front f n in omega arith

-- a list's sum
pub sum-by-index : {A : Type 0} (f : A → ℕ) (d : A) (l : List A) → sum (map f l) ≡ sum_to (λ j. f (get_or l j d)) (length l)
unfolding sum sum_to
sum-by-index f d [] = refl
sum-by-index f d (a ∷ l) = let h = sum-by-index f d l in let p = sum_to-front (λ j. f (get_or (a ∷ l) j d)) (length l) in omega arith

module _ (f : ℕ → ℕ) (a : ℕ) where
  -- terms that agree with those of g from a on
  pub sum_to-same : (g : ℕ → ℕ) (b : ℕ) → a ≤ b → ((j : ℕ) → a ≤ j → j < b → f j ≡ g j) → sum_to f b + sum_to g a ≡ sum_to g b + sum_to f a
  unfolding sum_to
  sum_to-same g zero h k = let e : a ≡ 0 = omega arith in rw e
  sum_to-same g (suc b) h k =
      elim (dec_le a b) [
        | yes l ↦ (let p = sum_to-same g b l (λ j x y. k j x (omega arith)) in let q = k b l (omega arith) in omega arith)
        | no l ↦ (let e : a ≡ suc b = omega arith in rw e (omega arith))
      ]

  -- no terms from a on
  pub sum_to-none : (b : ℕ) → a ≤ b → ((j : ℕ) → a ≤ j → j < b → f j ≡ 0) → sum_to f b ≡ sum_to f a
  unfolding sum_to
  sum_to-none zero h k = let e : a ≡ 0 = omega arith in rw e
  sum_to-none (suc b) h k =
      elim (dec_le a b) [
        | yes l ↦ (let p = sum_to-none b l (λ j x y. k j x (omega arith)) in let q = k b l (omega arith) in omega arith)
        | no l ↦ (let e : a ≡ suc b = omega arith in rw e)
      ]

-- more terms sum to no less
pub sum_to-grows : (f : ℕ → ℕ) (a b : ℕ) → a ≤ b → sum_to f a ≤ sum_to f b
unfolding sum_to
sum_to-grows f a zero h = let e : a ≡ 0 = omega arith in rw e (omega arith)
sum_to-grows f a (suc b) h =
    elim (dec_le a b) [
      | yes l ↦ (let p = sum_to-grows f a b l in omega arith)
      | no l ↦ (let e : a ≡ suc b = omega arith in rw e (omega arith))
    ]
