-- Laws of tests: cases on a Bool, and what a passed test says.
use Rattle.std.specs.Prelude.{◌≡◌, refl, Bool, true, false, not, ◌&&◌, ◌||◌, List, ◌∷◌, ◌⊎◌, ℕ, ◌≤◌, ◌<◌, T, leb, ltb}
use Rattle.std.proofs.Common.{sym, ◌∙◌, inl, inr, arith, leb-true, le-leb, ltb-true, ltb-false, lt-ltb, le-ltb}
use Rattle.model.specs.Basic.{is_in, all}

-- a test passes or fails; `rw` then opens what it decides
pub by-test : {P : Type 0} (b : Bool) → (b ≡ true → P) → (b ≡ false → P) → P
by-test true f g = f refl
by-test false f g = g refl

pub by-either : {A B P : Type 0} → (A → P) → (B → P) → A ⊎ B → P
by-either f g (inl a) = f a
by-either f g (inr b) = g b

-- two constructors that differ are equal: `cc` gives this from it
pub never : {P : Type 0} → ◌≡◌ {A = ℕ} 0 1 → P
never z = absurd (omega arith)

pub clash : {P : Type 0} (b : Bool) → b ≡ true → b ≡ false → P
clash b p q = never (cc)

pub passed : (b : Bool) → T b → b ≡ true
passed true t = refl
passed false t = absurd t

pub test_of : (b : Bool) → b ≡ true → T b
test_of b e = rw e tt

-- both halves of a test that passes
pub and_both : (a b : Bool) → (a && b) ≡ true → (a ≡ true) × (b ≡ true)
and_both true b e = (refl, e)
and_both false b e = clash false e refl

pub both-and : (a b : Bool) → a ≡ true → b ≡ true → (a && b) ≡ true
both-and true b p q = q
both-and false b p q = p

pub or-true : (a b : Bool) → (a || b) ≡ true → (a ≡ true) ⊎ (b ≡ true)
or-true true b e = inl refl
or-true false b e = inr e

pub not-true : (b : Bool) → not b ≡ true → b ≡ false
not-true true e = clash false e refl
not-true false e = refl

pub true-not : (b : Bool) → b ≡ false → not b ≡ true
true-not true e = clash true refl e
true-not false e = refl

-- tests on numbers in the same order
pub same_test : (m n k l : ℕ) → (m < n → k < l) → (n ≤ m → l ≤ k) → ltb m n ≡ ltb k l
same_test m n k l f g = by-test (ltb m n) (λ t. t ∙ sym (lt-ltb k l (f (ltb-true m n t)))) (λ t. t ∙ sym (le-ltb k l (g (ltb-false m n t))))

-- a number between two others
pub in_bounds : (lo hi n : ℕ) → is_in lo hi n ≡ true → (lo ≤ n) × (n ≤ hi)
in_bounds lo hi n e = let b = and_both (leb lo n) (leb n hi) e in (leb-true lo n b.0, leb-true n hi b.1)

pub within : (lo hi n : ℕ) → lo ≤ n → n ≤ hi → is_in lo hi n ≡ true
within lo hi n h k = both-and (leb lo n) (leb n hi) (le-leb lo n h) (le-leb n hi k)

-- a list all of which passes: its first, and the rest
pub all_head : {A : Type 0} (t : A → Bool) (a : A) (l : List A) → all t (a ∷ l) ≡ true → (t a ≡ true) × (all t l ≡ true)
unfolding all
all_head t a l h = by-test (t a) (λ e. (e, rw e at h)) (λ e. clash false (rw e at h) refl)
