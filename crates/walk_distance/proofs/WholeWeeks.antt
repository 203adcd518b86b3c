-- Whole weeks and several of them. Assumes nothing.
use mathlib.Core.Path.{◌≡◌, sym, ◌∙◌}
use mathlib.Core.Bool.{Bool, true, false}
use Prim.Native.Nat.{ℕ, ◌+◌, ◌*◌, ◌-◌, ◌/◌, ◌≤◌, ◌<◌, min}
use native.Mathlib.Nat.{mul-le-mul}
use native.Mathlib.Omega.{arith}
use lib.Dec.{eqb}
use borrow.Author.Tests.{eq-eqb, ne_eqb, eqb-true, eqb-false}
use Rattle.model.specs.Instant.{second, week}
use Rattle.laws_base.specs.Test.{by-test}
use Rattle.walk_distance.specs.Distances.{most_weeks}

-- ---- a week

abbrev pub week_seconds : ℕ
week_seconds = week / second

pub week-test : (xs xn ys yn : ℕ) → yn ≡ xn → eqb ys (xs + week_seconds) ≡ eqb (ys * second + yn - (xs * second + xn)) week
week-test xs xn ys yn e =
    by-test (eqb ys (xs + week_seconds))
    (λ p. let q = eqb-true ys (xs + week_seconds) p in p ∙ sym (eq-eqb (ys * second + yn - (xs * second + xn)) week (omega arith)))
    (λ p. let q = eqb-false ys (xs + week_seconds) p in p ∙ sym (ne_eqb (ys * second + yn - (xs * second + xn)) week (λ f. q (omega arith))))

pub no-week : (xs xn ys yn : ℕ) → (yn ≡ xn → ⊥) → xn < second → yn < second → false ≡ eqb (ys * second + yn - (xs * second + xn)) week
no-week xs xn ys yn e h k = sym (ne_eqb (ys * second + yn - (xs * second + xn)) week (λ f. e (omega arith)))

-- ---- several

-- what the product of nanoseconds stays below
pub nanos-fit : (n k : ℕ) → n ≤ most_weeks → k < second → n * k ≤ most_weeks * second
nanos-fit n k h i = let p = mul-le-mul h (below k i) in omega arith
  where
    below : (k : ℕ) → k < second → k ≤ second
    below k i = omega arith

-- what is left is no whole window
pub part_left : (x end n : ℕ) → n ≡ (end - x) / week → n ≡ 0 → eqb (min (x + week) end - x) week ≡ false
part_left x end n e h = ne_eqb (min (x + week) end - x) week (λ f. omega arith)

-- as many windows as whole ones are left, or fewer, lie before the end
pub whole-left : (x end n m : ℕ) → x ≤ end → n ≡ (end - x) / week → m ≤ n → x + m * week ≤ end
whole-left x end n m h e k = omega arith

pub some_of : (n : ℕ) → (n ≡ 0 → ⊥) → 0 < n
some_of n h = omega (arith, h)
