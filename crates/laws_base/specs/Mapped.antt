-- Filling a list in place: a number for each number, one after the other.
use Rattle.std.specs.Prelude.{◌≡◌, refl, List, ℕ, ◌+◌, ◌≤◌, ◌<◌, length, get_or, set}
use Rattle.std.proofs.Common.{ap, ◌∙◌, ⊎_elim, eq-or-lt_of_le, arith, length-set, get_or-set_same, get_or-set_other}

-- b has g of each number of a, in its place
pub record Mapped (g : ℕ → ℕ) (a b : List ℕ) : Type 0 where
  pub long : length b ≡ length a
  pub each : (k : ℕ) → k < length a → get_or b k 0 ≡ g (get_or a k 0)

pub unchanged : (a : List ℕ) → Mapped (λ x. x) a a
unchanged a = record { long = refl; each = λ k l. refl }

-- the first i are done, and the others as they were
pub record MappedUpTo (g : ℕ → ℕ) (a b : List ℕ) (i : ℕ) : Type 0 where
  pub long : length b ≡ length a
  pub front : (k : ℕ) → k < i → get_or b k 0 ≡ g (get_or a k 0)
  pub rest : (k : ℕ) → i ≤ k → get_or b k 0 ≡ get_or a k 0

module _ (g : ℕ → ℕ) (a : List ℕ) where
  pub none_done : MappedUpTo g a a 0
  none_done = record { long = refl; front = λ k h. absurd (omega arith); rest = λ k h. refl }

  pub one-done : {b : List ℕ} {i v : ℕ} → MappedUpTo g a b i → i < length b → v ≡ g (get_or b i 0) → MappedUpTo g a (set b i v) (i + 1)
  one-done {b} {i} {v} d h e = record {
    long = length-set b i v ∙ d.long;
    front = λ k l. ⊎_elim (λ q. rw q (here)) (λ q. get_or-set_other b i k v 0 (λ p. omega arith) ∙ d.front k (omega arith)) (eq-or-lt_of_le (before k l));
    rest = λ k l. get_or-set_other b i k v 0 (λ p. omega arith) ∙ d.rest k (omega arith);
  }
    where
      here : get_or (set b i v) i 0 ≡ g (get_or a i 0)
      here = get_or-set_same b i v 0 h ∙ e ∙ ap g (d.rest i (omega arith))

      before : (k : ℕ) → k < i + 1 → k ≤ i
      before k l = omega arith

  pub all_done : {b : List ℕ} {i : ℕ} → MappedUpTo g a b i → length b ≤ i → Mapped g a b
  all_done d h = record { long = d.long; each = λ k l. d.front k (omega (arith, d.long)) }
