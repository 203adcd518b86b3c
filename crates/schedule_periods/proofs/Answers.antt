-- Each answer of the calls, from what the code has read, walked and written.
use Rattle.std.specs.Prelude.{◌≡◌, refl, Bool, true, false, List, [], ◌∷◌, ◌++◌, ℕ, ◌+◌, ◌-◌, ℤ, pos, Err}
use Rattle.std.proofs.Common.{ap, ◌∙◌}
use Rattle.model.specs.Answer.{Answer, gives, refuses, ◌>>=◌}
use Rattle.model.specs.Instant.{instant_of, instant}
use Rattle.model.specs.Blocks.{Block, block}
use Rattle.model.specs.Working as model
use Rattle.model.specs.Walk.{Way, at, period}
use Rattle.model.specs.Calls.{ends, period_call}
use Rattle.model.specs.Marks.{marked_period_call, start_of_period, end_of_period}
use Rattle.refusal.specs.Refused.{number_of, search_refused}
use Rattle.refusal.specs.declared.SearchError.{SearchError}
use Rattle.walk_distance.specs.Distances.{way_of}
use Rattle.walk_period.specs.Found.{found_is}
use Rattle.schedule_periods.specs.Replies.{period_given, walk_call}

-- ---- from what is walked to

abbrev paired : ℕ → Block → Answer (ℕ × Block)
paired t b = gives (t, b)

then-given : {A : Type 0} (g : ℕ → Block → A) (p : ℕ → Answer Block) (i : Answer ℕ) →
    ((i >>= λ t. p t >>= paired t) >>= λ x. gives (g x.0 x.1)) ≡ (i >>= λ t. p t >>= λ b. gives (g t b))
then-given g p (refuses n k) = refl
then-given g p (gives t) = go (p t)
  where
    go : (a : Answer Block) → ((a >>= paired t) >>= λ x. gives (g x.0 x.1)) ≡ (a >>= λ b. gives (g t b))
    go (refuses n k) = refl
    go (gives b) = refl

module _ (w : Way) (s : model.Schedule) (t₁ t₂ : ℤ) {a : Answer (ℕ × Block)} (e : a ≡ walk_call w s t₁ t₂) where
  pub call-walked : (a >>= λ x. gives (period_given (ends w x.0 x.1))) ≡ period_call w s t₁ t₂
  unfolding period_call
  call-walked = ap (λ y. y >>= λ x. gives (period_given (ends w x.0 x.1))) e ∙ then-given (λ t p. period_given (ends w t p)) (period w s) (instant_of t₁ t₂)

  pub marked-walked : (a >>= λ x. gives (ends w x.0 x.1 ++ pos (start_of_period w s x.0 x.1) ∷ pos (end_of_period w s x.0 x.1) ∷ [])) ≡ marked_period_call w s t₁ t₂
  unfolding marked_period_call
  marked-walked =
      ap (λ y. y >>= λ x. gives (ends w x.0 x.1 ++ pos (start_of_period w s x.0 x.1) ∷ pos (end_of_period w s x.0 x.1) ∷ [])) e
      ∙ then-given (λ t p. ends w t p ++ pos (start_of_period w s t p) ∷ pos (end_of_period w s t p) ∷ []) (period w s) (instant_of t₁ t₂)

-- a period that is given with its marks
module _ (w : Way) (s : model.Schedule) (t₁ t₂ : ℤ) {t : ℕ} {p : Block} (e : gives (t, p) ≡ walk_call w s t₁ t₂) where
  pub marked-given : {l : List ℤ} {m n : ℕ} → l ≡ ends w t p → m ≡ start_of_period w s t p → n ≡ end_of_period w s t p → gives (l ++ pos m ∷ pos n ∷ []) ≡ marked_period_call w s t₁ t₂
  marked-given q g h = rw (q, g, h) (marked-walked w s t₁ t₂ e)

-- ---- the walk

module _ (w : Way) (s : model.Schedule) (t₁ t₂ : ℤ) where
  pub walk-out : instant_of t₁ t₂ ≡ refuses 8 0 → refuses 8 0 ≡ walk_call w s t₁ t₂
  walk-out e = rw e

  pub walk-ends : {t : ℕ} → instant_of t₁ t₂ ≡ gives t → {a : Answer Block} → a ≡ period w s t → (a >>= λ p. gives (t, p)) ≡ walk_call w s t₁ t₂
  walk-ends {t} i e = rw i (ap (λ a. a >>= λ p. gives (t, p)) e)

-- the refusal of a search that does not reach a period
pub search-is : (t : ℕ) (e : SearchError) → refuses (number_of (search_refused e).refusal) (search_refused e).place ≡ (found_is (Err e) >>= paired t)
search-is t SearchError.NoWork = refl
search-is t SearchError.RangeEnds = refl

-- ---- a period written

module _ (z : Bool) (t f e : ℕ) (a b : ℕ) {l m : List ℤ} (i : l ≡ instant a) (j : m ≡ instant b) where
  -- going on, from the nearer border to the further one
  pub period-at-on : z ≡ false → a ≡ at (way_of z) t f → b ≡ at (way_of z) t e → l ++ m ≡ ends (way_of z) t (block f e)
  period-at-on h p q = let x : a ≡ t + f = rw h at p in let y : b ≡ t + e = rw h at q in rw (h, ← x, ← y, i, j)

  -- going back, from the further border to the nearer one
  pub period-at-back : z ≡ true → a ≡ at (way_of z) t f → b ≡ at (way_of z) t e → m ++ l ≡ ends (way_of z) t (block f e)
  period-at-back h p q = let x : a ≡ t - f = rw h at p in let y : b ≡ t - e = rw h at q in rw (h, ← x, ← y, i, j)
