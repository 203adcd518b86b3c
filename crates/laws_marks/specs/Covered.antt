-- The tests `covered_at` and `covered_before` around an instant, and the instants that whole blocks hold.
use Rattle.std.specs.Prelude.{◌≡◌, refl, true, false, ◌&&◌, List, [], ◌∷◌, map, ℕ, zero, suc, leb, ltb}
use Rattle.std.proofs.Common.{sym, ◌∙◌, arith, ltb-true, ltb-false, leb-true, leb-false, lt-ltb, le-ltb, le-leb}
use Rattle.std.proofs.lemmas.Bool.{lt-leb}
use Rattle.model.specs.Basic.{any}
use Rattle.model.specs.Marks.{MarkedBlock}
use Rattle.laws_base.specs.Test.{by-test}
use Rattle.laws_blocks.specs.Members.{InBlocks, covers, in-covers, not-covers, covers-in, covers-not}
use Rattle.laws_marks.specs.Around.{covered_at, covered_before}
use Rattle.laws_marks.specs.Forget.{forget}

pub at-covers : (u : ℕ) (l : List MarkedBlock) → covered_at u l ≡ covers (map forget l) u
unfolding covered_at any
at-covers u [] = refl
at-covers u (b ∷ l) = by-test (leb b.start.at u && ltb u b.end.at) (λ e. rw e) (λ e. rw e (at-covers u l))

before-suc : (s t : ℕ) → ltb s (suc t) ≡ leb s t
before-suc s t = by-test (leb s t) (λ e. lt-ltb s (suc t) (omega (arith, leb-true s t e)) ∙ sym e) (λ e. le-ltb s (suc t) (omega (arith, leb-false s t e)) ∙ sym e)

suc-upto : (t e : ℕ) → leb (suc t) e ≡ ltb t e
suc-upto t e = by-test (ltb t e) (λ q. le-leb (suc t) e (omega (arith, ltb-true t e q)) ∙ sym q) (λ q. lt-leb (suc t) e (omega (arith, ltb-false t e q)) ∙ sym q)

pub before-covers : (t : ℕ) (l : List MarkedBlock) → covered_before (suc t) l ≡ covers (map forget l) t
unfolding covered_before any
before-covers t [] = refl
before-covers t (b ∷ l) =
    rw (before-suc b.start.at t, suc-upto t b.end.at)
    (by-test (leb b.start.at t && ltb t b.end.at) (λ e. rw e) (λ e. rw e (before-covers t l)))

before-none : (l : List MarkedBlock) → covered_before 0 l ≡ false
unfolding covered_before any
before-none [] = refl
before-none (b ∷ l) = rw (le-ltb b.start.at 0 (omega arith)) (before-none l)

pub at-yes : (u : ℕ) (l : List MarkedBlock) → InBlocks u (map forget l) → covered_at u l ≡ true
at-yes u l h = at-covers u l ∙ in-covers u (map forget l) h

pub at-no : (u : ℕ) (l : List MarkedBlock) → (InBlocks u (map forget l) → ⊥) → covered_at u l ≡ false
at-no u l h = at-covers u l ∙ not-covers u (map forget l) h

pub before-yes : (u t : ℕ) (l : List MarkedBlock) → u ≡ suc t → InBlocks t (map forget l) → covered_before u l ≡ true
before-yes u t l e h = rw e (before-covers t l ∙ in-covers t (map forget l) h)

pub before-no : (u : ℕ) (l : List MarkedBlock) → ((t : ℕ) → u ≡ suc t → InBlocks t (map forget l) → ⊥) → covered_before u l ≡ false
before-no zero l h = before-none l
before-no (suc t) l h = before-covers t l ∙ not-covers t (map forget l) (h t refl)

pub before-not : (u t : ℕ) (l : List MarkedBlock) → u ≡ suc t → (InBlocks t (map forget l) → ⊥) → covered_before u l ≡ false
before-not u t l e h = rw e (before-covers t l ∙ not-covers t (map forget l) h)

-- what a test says
pub at_in : (u : ℕ) (l : List MarkedBlock) → covered_at u l ≡ true → InBlocks u (map forget l)
at_in u l e = covers-in u (map forget l) (sym (at-covers u l) ∙ e)

pub at_out : (u : ℕ) (l : List MarkedBlock) → covered_at u l ≡ false → InBlocks u (map forget l) → ⊥
at_out u l e = covers-not u (map forget l) (sym (at-covers u l) ∙ e)

pub before-in : (u t : ℕ) (l : List MarkedBlock) → u ≡ suc t → covered_before u l ≡ true → InBlocks t (map forget l)
before-in u t l q e = covers-in t (map forget l) (sym (before-covers t l) ∙ (rw q at e))

pub before-out : (u t : ℕ) (l : List MarkedBlock) → u ≡ suc t → covered_before u l ≡ false → InBlocks t (map forget l) → ⊥
before-out u t l q e = covers-not t (map forget l) (sym (before-covers t l) ∙ (rw q at e))
