-- What an answer of `hardest` says: its numbers are those of the earliest of the windows that no window exceeds, or of an empty log.
use Rattle.std.specs.Prelude.{◌≡◌, refl, true, false, List, [], ◌∷◌, ◌++◌, ℕ, ◌*◌, ℤ, nat_abs}
use Rattle.std.proofs.Common.{sym, ap, subst}
use Rattle.model.specs.Answer.{Answer, gives, refuses}
use Rattle.model.specs.Instant.{second, instant_of, instant, duration}
use Rattle.model.specs.Working.{Schedule}
use Rattle.model.specs.Calls.{Reply}
use Rattle.model.specs.Hardest.{Stretch, runs_of, is_log, is_width, windows_of, hardest_of, hardest_call}
use Rattle.laws_base.specs.Test.{by-test, never}
use Rattle.laws_hardest.specs.Earliest.{stretch, Earliest, hardest-earliest, hardest-empty}

-- h is the hardest of the windows l of a log from the instant t
pub data Hardest (t : ℕ) : List Stretch → Stretch → Type 0 where
  of_none : Hardest t [] (stretch 0 t)
  of_some : {l : List Stretch} {h : Stretch} → Earliest l h → Hardest t l h

pub hardest-is : (t : ℕ) (l : List Stretch) → Hardest t l (hardest_of t l)
hardest-is t [] = subst (λ (h : Stretch). Hardest t [] h) (sym (hardest-empty t)) of_none
hardest-is t (x ∷ l) = of_some (hardest-earliest t x l)

-- what is given was asked of an instant, a log and a width, and the numbers are those of the hardest window
pub record Answered (s : Schedule) (t₁ t₂ : ℤ) (log : List ℤ) (width : ℤ) (r : Reply) : Type 0 where
  pub t : ℕ
  pub is-instant : instant_of t₁ t₂ ≡ gives t
  pub is-log : is_log t log ≡ true
  pub is-width : is_width width ≡ true
  pub h : Stretch
  pub numbers : r.values ≡ duration (record { minus = false; size = h.time }) ++ instant h.start
  pub hardest : Hardest t (windows_of s (nat_abs width * second) (runs_of t log)) h

pub hardest-answered : (s : Schedule) (t₁ t₂ : ℤ) (log : List ℤ) (width : ℤ) (r : Reply) → hardest_call s t₁ t₂ log width ≡ gives r → Answered s t₁ t₂ log width r
unfolding hardest_call
hardest-answered s t₁ t₂ log width r e = from (instant_of t₁ t₂) refl
  where
    inside : {x : Reply} → gives x ≡ gives r → x.values ≡ r.values
    inside {x} q = let z : x ≡ r = cc in ap (λ (y : Reply). y.values) z

    from : (a : Answer ℕ) → instant_of t₁ t₂ ≡ a → Answered s t₁ t₂ log width r
    from (refuses n p) i = let q : refuses n p ≡ gives r = rw i at e in never (cc)
    from (gives t) i =
        by-test (is_log t log)
        (λ l.
        by-test (is_width width)
        (λ w.
        let h = hardest_of t (windows_of s (nat_abs width * second) (runs_of t log)) in
        let q : gives _ ≡ gives r = rw (i, l, w) at e in
        record { t = t; is-instant = i; is-log = l; is-width = w; h = h; numbers = sym (inside q); hardest = hardest-is t _ })
        (λ w. let q : refuses 12 0 ≡ gives r = rw (i, l, w) at e in never (cc)))
        (λ l. let q : refuses 11 0 ≡ gives r = rw (i, l) at e in never (cc))
