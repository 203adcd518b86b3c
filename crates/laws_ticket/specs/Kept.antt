-- Laws of the history that remains: what a mark taken out of it leaves, what is left up to a mark, and the marks with their elapsed time.
use Rattle.std.specs.Prelude.{◌≡◌, true, false, not, ℕ, eqb}
use Rattle.std.proofs.Math.Path.{refl}
use Rattle.std.proofs.Common.{ap}
use mathlib.Core.List.{List, [], ◌∷◌}
use Rattle.model.specs.Basic.{any, filter}
use Rattle.model.specs.Blocks.{Block, block}
use Rattle.model.specs.Working.{Schedule}
use Rattle.model_ticket.specs.History.{Event, begins, ends, marked, is_running, is_mark, up_to, spells, elapsed}
use Rattle.model_ticket.specs.Ticket.{Mark, is_named}
use Rattle.laws_base.specs.Test.{by-test, clash}

-- ---- a history without the marks of a name

abbrev pub without : ℕ → List Event → List Event
without n h = filter (λ (e : Event). not (is_mark n e)) h

pub running-without : (n : ℕ) (h : List Event) → is_running (without n h) ≡ is_running h
unfolding filter is_running
running-without n [] = refl
running-without n (begins t ∷ h) = refl
running-without n (ends t ∷ h) = refl
running-without n (marked m t ∷ h) = by-test (eqb m n) (λ e. rw e (running-without n h)) (λ e. rw e (running-without n h))

pub spells-without : (n u : ℕ) (h : List Event) → spells u (without n h) ≡ spells u h
unfolding filter spells
spells-without n u [] = refl
spells-without n u (begins t ∷ h) = ap (λ (l : List Block). block t u ∷ l) (spells-without n t h)
spells-without n u (ends t ∷ h) = spells-without n t h
spells-without n u (marked m t ∷ h) = by-test (eqb m n) (λ e. rw e (spells-without n u h)) (λ e. rw e (spells-without n u h))

pub elapsed-without : (s : Schedule) (n u : ℕ) (h : List Event) → elapsed s u (without n h) ≡ elapsed s u h
elapsed-without s n u h = rw (spells-without n u h)

-- ---- a held ticket

-- its spells have ended, so that they do not depend on the instant up to which they are read
pub spells-held : (u v : ℕ) (h : List Event) → is_running h ≡ false → spells u h ≡ spells v h
unfolding is_running spells
spells-held u v [] r = refl
spells-held u v (begins t ∷ h) r = clash true refl r
spells-held u v (ends t ∷ h) r = refl
spells-held u v (marked n t ∷ h) r = spells-held u v h r

pub elapsed-held : (s : Schedule) (u v : ℕ) (h : List Event) → is_running h ≡ false → elapsed s u h ≡ elapsed s v h
elapsed-held s u v h r = rw (spells-held u v h r)

-- ---- up to a mark

-- a history that begins with a mark of that name
pub data Marked (n : ℕ) : List Event → Type 0 where
  at_mark : {m t : ℕ} {h : List Event} → eqb m n ≡ true → Marked n (marked m t ∷ h)

pub mark-found : (n : ℕ) (h : List Event) → any (is_mark n) h ≡ true → Marked n (up_to (is_mark n) h)
unfolding any up_to
mark-found n [] a = clash false a refl
mark-found n (begins t ∷ h) a = mark-found n h a
mark-found n (ends t ∷ h) a = mark-found n h a
mark-found n (marked m t ∷ h) a = by-test (eqb m n) (λ e. rw e (at_mark e)) (λ e. rw e (mark-found n h (rw e at a)))

-- ---- the marks

-- each with its name, whether the ticket was running there, and the elapsed time there; latest first
unfoldable pub marks_of : Schedule → List Event → List Mark
marks_of s [] = []
marks_of s (begins t ∷ h) = marks_of s h
marks_of s (ends t ∷ h) = marks_of s h
marks_of s (marked n t ∷ h) = record { name = n; running = is_running h; time = elapsed s t h } ∷ marks_of s h

module _ (s : Schedule) (n : ℕ) where
  pub marks-any : (h : List Event) → any (is_named n) (marks_of s h) ≡ any (is_mark n) h
  unfolding any marks_of
  marks-any [] = refl
  marks-any (begins t ∷ h) = marks-any h
  marks-any (ends t ∷ h) = marks-any h
  marks-any (marked m t ∷ h) = by-test (eqb m n) (λ e. rw e) (λ e. rw e (marks-any h))

  pub marks-up_to : (h : List Event) → marks_of s (up_to (is_mark n) h) ≡ up_to (is_named n) (marks_of s h)
  unfolding up_to marks_of
  marks-up_to [] = refl
  marks-up_to (begins t ∷ h) = marks-up_to h
  marks-up_to (ends t ∷ h) = marks-up_to h
  marks-up_to (marked m t ∷ h) = by-test (eqb m n) (λ e. rw e) (λ e. rw e (marks-up_to h))

  pub marks-without : (h : List Event) → marks_of s (without n h) ≡ filter (λ (m : Mark). not (is_named n m)) (marks_of s h)
  unfolding filter marks_of
  marks-without [] = refl
  marks-without (begins t ∷ h) = marks-without h
  marks-without (ends t ∷ h) = marks-without h
  marks-without (marked m t ∷ h) =
      by-test (eqb m n)
      (λ e. rw e (marks-without h))
      (λ e. rw e (rw (running-without n h, spells-without n t h, marks-without h)))
