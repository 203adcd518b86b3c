-- A period call with marks tells the period of the call without them.
use Rattle.std.specs.Prelude.{◌≡◌, refl, List, [], ◌∷◌, ◌++◌, ℕ, take, ℤ, pos}
use Rattle.std.proofs.Common.{ap}
use Rattle.std.proofs.Math.Option.{none}
use Rattle.model.specs.Instant.{instant_of, instant}
use Rattle.model.specs.Answer.{Answer, gives, refuses, ◌>>=◌}
use Rattle.model.specs.Blocks.{Block}
use Rattle.model.specs.Working.{Schedule}
use Rattle.model.specs.Build.{build}
use Rattle.model.specs.Walk.{Way, on, back, period}
use Rattle.model.specs.Calls.{Reply, ends, period_call, said, next_period, previous_period}
use Rattle.model.specs.Marks.{start_of_period, end_of_period, marked_period_call, next_marked, previous_marked}

-- the numbers of an answer without the two marks at its end
abbrev pub unmarked_period : Answer (List ℤ) → Answer (List ℤ)
unmarked_period a = a >>= λ (l : List ℤ). gives (take 4 l)

first-four : (w : Way) (t : ℕ) (p : Block) (l : List ℤ) → take 4 (ends w t p ++ l) ≡ ends w t p
unfolding instant
first-four on t p l = refl
first-four back t p l = refl

-- what both calls do first
bind-forgets : {A : Type 0} (f : A → Answer (List ℤ)) (g : A → Answer Reply) → ((a : A) → unmarked_period (f a) ≡ said (g a)) → (x : Answer A) → unmarked_period (x >>= f) ≡ said (x >>= g)
bind-forgets f g h (gives a) = h a
bind-forgets f g h (refuses n p) = refl

pub period-forgets : (w : Way) (s : Schedule) (t₁ t₂ : ℤ) → unmarked_period (marked_period_call w s t₁ t₂) ≡ said (period_call w s t₁ t₂)
unfolding marked_period_call period_call
period-forgets w s t₁ t₂ =
    bind-forgets
    (λ t. period w s t >>= λ p. gives (ends w t p ++ pos (start_of_period w s t p) ∷ pos (end_of_period w s t p) ∷ []))
    (λ t. period w s t >>= λ p. gives (record { values = ends w t p; windows = none }))
    (λ t. bind-forgets
    (λ p. gives (ends w t p ++ pos (start_of_period w s t p) ∷ pos (end_of_period w s t p) ∷ []))
    (λ p. gives (record { values = ends w t p; windows = none }))
    (λ p. ap gives (first-four w t p (pos (start_of_period w s t p) ∷ pos (end_of_period w s t p) ∷ [])))
    (period w s t))
    (instant_of t₁ t₂)

-- the same from bytes
pub next-forgets : (book pack : List ℕ) (t₁ t₂ : ℤ) → unmarked_period (next_marked book pack t₁ t₂) ≡ said (next_period book pack t₁ t₂)
next-forgets book pack t₁ t₂ = bind-forgets (λ s. marked_period_call on s t₁ t₂) (λ s. period_call on s t₁ t₂) (λ s. period-forgets on s t₁ t₂) (build book pack)

pub previous-forgets : (book pack : List ℕ) (t₁ t₂ : ℤ) → unmarked_period (previous_marked book pack t₁ t₂) ≡ said (previous_period book pack t₁ t₂)
previous-forgets book pack t₁ t₂ = bind-forgets (λ s. marked_period_call back s t₁ t₂) (λ s. period_call back s t₁ t₂) (λ s. period-forgets back s t₁ t₂) (build book pack)
