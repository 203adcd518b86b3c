-- Each answer of the listing, from what the code has tested and called. Assumes nothing.
use mathlib.Core.Path.{◌≡◌, refl, sym, ap, ◌∙◌}
use mathlib.Core.Bool.{Bool, true, false}
use mathlib.Core.List.{List, ◌++◌, map}
use Prim.Native.Nat.{ℕ, ◌+◌, ◌*◌, ◌≤◌}
use native.Mathlib.Omega.{arith}
use lib.Dec.{leb}
use lib.IntN.{ℤ}
use lib.ListN.{length, drop}
use borrow.Author.Tests.{leb-true}
use Rattle.model.specs.Basic.{joined}
use Rattle.model.specs.Answer.{Answer, gives, refuses}
use Rattle.model.specs.Blocks.{Block}
use Rattle.model.specs.Build.{build}
use Rattle.model.specs.Calls.{list_call, list, stretch_count, numbers_after}
use Rattle.model.specs.Instant.{instant_of}
use Rattle.model.specs.Walk.{stretches}
use Rattle.model.specs.Working.{Schedule}
use Rattle.walk_list_week.specs.Stretched.{placed, fields, stored}
use Rattle.walk_list_week.proofs.Placing.{numbers-long}

-- ---- the answers

-- the numbers of all stretches, and those behind them
stored-all : (l : List Block) (e : List ℤ) → stored true 0 l e ≡ joined (map fields l) ++ drop (4 * length l) e
unfolding stored placed
stored-all l e = let p : 0 + length (joined (map fields l)) ≡ 4 * length l = let q = numbers-long l in omega arith in ap (λ (k : ℕ). joined (map fields l) ++ drop k e) p

module _ (s : Schedule) (a₁ a₂ b₁ b₂ : ℤ) (e : List ℤ) where
  pub first-refused : instant_of a₁ a₂ ≡ refuses 8 0 → (refuses 8 0 ≡ stretch_count (list_call s a₁ a₂ b₁ b₂ e)) × (e ≡ numbers_after (list_call s a₁ a₂ b₁ b₂ e) e)
  unfolding list_call
  first-refused p = rw p (refl, refl)

  module _ (lo hi : ℕ) (p : instant_of a₁ a₂ ≡ gives lo) where
    pub second-refused : instant_of b₁ b₂ ≡ refuses 8 0 → (refuses 8 0 ≡ stretch_count (list_call s a₁ a₂ b₁ b₂ e)) × (e ≡ numbers_after (list_call s a₁ a₂ b₁ b₂ e) e)
    unfolding list_call
    second-refused q = rw (p, q) (refl, refl)

    module _ (q : instant_of b₁ b₂ ≡ gives hi) {r : Bool} (c : r ≡ leb (4 * length (stretches s lo hi)) (length e)) (o : List ℤ) (k : o ≡ e) where
      pub too_few : r ≡ false → (refuses 10 0 ≡ stretch_count (list_call s a₁ a₂ b₁ b₂ e)) × (o ≡ numbers_after (list_call s a₁ a₂ b₁ b₂ e) e)
      unfolding list_call
      too_few h = rw (p, q, sym c ∙ h) (refl, k)

      pub enough : r ≡ true → 4 * length (stretches s lo hi) ≤ length o
      enough h = rw k (leb-true (4 * length (stretches s lo hi)) (length e) (sym c ∙ h))

      pub written : r ≡ true → (m : ℕ) → m ≡ length (stretches s lo hi) → (o' : List ℤ) → o' ≡ stored true 0 (stretches s lo hi) o
          → (gives m ≡ stretch_count (list_call s a₁ a₂ b₁ b₂ e)) × (o' ≡ numbers_after (list_call s a₁ a₂ b₁ b₂ e) e)
      unfolding list_call
      written h m d o' v =
          rw (p, q, sym c ∙ h)
          (ap {B = Answer ℕ} (λ (x : ℕ). gives x) d, v ∙ ap (stored true 0 (stretches s lo hi)) k ∙ stored-all (stretches s lo hi) e)

-- ---- from the bytes

module _ (b p : List ℕ) (a₁ a₂ b₁ b₂ : ℤ) (e : List ℤ) {a : Answer Schedule} (h : a ≡ build b p) where
  pub build-refused : {m k : ℕ} → a ≡ refuses m k → (refuses m k ≡ stretch_count (list b p a₁ a₂ b₁ b₂ e)) × (e ≡ numbers_after (list b p a₁ a₂ b₁ b₂ e) e)
  build-refused {m} {k} n = let q : refuses m k ≡ build b p = sym n ∙ h in rw (← q) (refl, refl)

  pub build-gives : {s : Schedule} → a ≡ gives s → {x : Answer ℕ} {o : List ℤ} → (x ≡ stretch_count (list_call s a₁ a₂ b₁ b₂ e)) × (o ≡ numbers_after (list_call s a₁ a₂ b₁ b₂ e) e)
      → (x ≡ stretch_count (list b p a₁ a₂ b₁ b₂ e)) × (o ≡ numbers_after (list b p a₁ a₂ b₁ b₂ e) e)
  build-gives {s} n y = let q : gives s ≡ build b p = sym n ∙ h in rw (← q) y
