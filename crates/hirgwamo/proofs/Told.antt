-- From the answer of a call to what the function for it promises.
use mathlib.Core.Path.{◌≡◌, refl, sym, subst, ap, ◌∙◌}
use mathlib.Core.List.{List, [], ◌∷◌}
use Prim.Native.Nat.{ℕ, ◌*◌, ◌^◌, ◌≤◌, ◌<◌}
use native.Mathlib.Omega.{arith}
use lib.IntN.{ℤ, pos}
use lib.ListN.{length, take}
use borrow.Author.Tests.{lt-ltb, le-ltb}
use Rattle.model.specs.Answer.{Answer, gives, refuses, ◌>>=◌}
use Rattle.model.specs.Calls.{Reply, Listing, said, most_of, stretch_count, numbers_after}
use Rattle.laws_base.specs.Test.{never}
use Rattle.laws_part.specs.Placed.{PlacedIn, gave, refused-in}
use Rattle.laws_part.specs.Replies.{FewWindows, most_windows, Fit}
use Rattle.answer_numbers.specs.Outcomes.{outcome, answering, too_short, EndsAs}
use Rattle.schedule.specs.Answers.{KeepsReply}
use Rattle.hirgwamo.specs.Part.{with_count, how_many, count_size, stretches_after}

-- ---- by the numbers lent

module _ (size : ℕ) (a : Answer (List ℤ)) (e : List ℤ) where
  pub too_short_lem : length e < size → EndsAs too_short e (outcome size a e)
  unfolding outcome
  too_short_lem h = rw (lt-ltb (length e) size h) (refl, refl)

  pub told : {b : Answer (List ℤ)} {r : ℕ} {x : List ℤ} → size ≤ length e → b ≡ a → EndsAs r x (answering b e) → EndsAs r x (outcome size a e)
  unfolding outcome
  told h p k = rw (le-ltb (length e) size h) (rw p at k)

-- ---- a refusal's place

pub said-place : {P : Reply → Type 0} {m n p : ℕ} {o : Answer Reply} → PlacedIn P m o → said o ≡ refuses n p → p ≤ m
said-place (gave h) e = never (cc)
said-place {m = m} {p = p} (refused-in {p = q} h) e = let s : q ≡ p = cc in subst (λ x. x ≤ m) s h

-- ---- answers with a count of windows

module _ {v : Answer (List ℤ)} {c : ℕ} {d : Answer Reply} (k : KeepsReply v c d) where
  pub counted-gives : {x y : ℤ} {w : ℕ} → v ≡ gives (x ∷ y ∷ []) → c ≡ w → {u₁ u₂ u₃ : ℤ} → u₁ ≡ x → u₂ ≡ y → u₃ ≡ pos w → gives (u₁ ∷ u₂ ∷ u₃ ∷ []) ≡ with_count d
  counted-gives {x} {y} e f p q r = let s : said d ≡ gives (x ∷ y ∷ []) = sym k.0 ∙ e in rw (s, ← k.1.least, f, p, q, r)

  pub counted-refuses : {n p : ℕ} → v ≡ refuses n p → refuses n p ≡ with_count d
  counted-refuses {n} {p} e = let s : said d ≡ refuses n p = sym k.0 ∙ e in rw s

  module _ {m : ℕ} (f : PlacedIn FewWindows m d) where
    pub count_fits : {w : ℕ} → c ≡ w → w < 2 ^ 63
    count_fits e = let h = k.1.most in let g = few f in omega arith
      where
        few : {o : Answer Reply} → PlacedIn FewWindows m o → most_of o ≤ most_windows
        few (gave h) = h
        few (refused-in h) = omega arith

    pub counted-place : {n p : ℕ} → v ≡ refuses n p → p ≤ m
    counted-place e = said-place f (sym k.0 ∙ e)

-- ---- the numbers of an answer, as they are handed on

pub numbers : {l m : List ℤ} → l ≡ m → ◌≡◌ {A = Answer (List ℤ)} (gives l) (gives m)
numbers p = ap gives p

-- the instant of a local time, without its mark
abbrev pub first_two : Answer (List ℤ) → Answer (List ℤ)
first_two a = a >>= λ l. gives (take 2 l)

-- ---- the listing

module _ (lent : List ℤ) {m : ℕ} {d : Answer Listing} (f : PlacedIn (Fit m lent) m d) where
  pub stretches-fit : {n : ℕ} → gives n ≡ stretch_count d → 4 * n ≤ length lent
  stretches-fit {n} e = go f e
    where
      go : {o : Answer Listing} → PlacedIn (Fit m lent) m o → gives n ≡ stretch_count o → 4 * n ≤ length lent
      go (gave {a = l} h) e = let s : l.count ≡ n = cc in subst (λ x. 4 * x ≤ length lent) s h
      go (refused-in h) e = never (cc)

  pub listing-place : {n p : ℕ} → refuses n p ≡ stretch_count d → p ≤ m
  listing-place {n} {p} e = go f e
    where
      go : {o : Answer Listing} → PlacedIn (Fit m lent) m o → refuses n p ≡ stretch_count o → p ≤ m
      go (gave h) e = never (cc)
      go (refused-in {p = q} h) e = let s : q ≡ p = cc in subst (λ x. x ≤ m) s h

module _ (a : Answer Listing) (before lent : List ℤ) where
  pub list-short : length before < count_size → EndsAs too_short before (outcome count_size (how_many a) before) × (lent ≡ stretches_after (length before) a lent)
  unfolding stretches_after
  list-short h = (too_short_lem count_size (how_many a) before h, rw (lt-ltb (length before) count_size h))

  pub list-told : {b : Answer ℕ} {r : ℕ} {x y : List ℤ} {t : Answer (List ℤ)} → count_size ≤ length before → b ≡ stretch_count a → t ≡ (b >>= λ n. gives (pos n ∷ []))
      → y ≡ numbers_after a lent → EndsAs r x (answering t before)
      → EndsAs r x (outcome count_size (how_many a) before) × (y ≡ stretches_after (length before) a lent)
  unfolding stretches_after
  list-told h p q s k = (told count_size (how_many a) before h (q ∙ ap (λ b. b >>= λ n. gives (pos n ∷ [])) p) k, rw (le-ltb (length before) count_size h) s)
