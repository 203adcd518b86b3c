-- Numbers in a list: what `filter`, `map`, `distinct`, `run`, `maximum` and `least_or` hold and give.
use Rattle.std.specs.Prelude.{◌≡◌, refl, Bool, true, false, List, [], ◌∷◌, ◌++◌, map, ◌⊎◌, ℕ, zero, suc, ◌+◌, min, ◌≤◌, ◌<◌, eqb}
use Rattle.std.proofs.Common.{◌∙◌, ap, inl, inr, arith, le_antisymm, eqb→eq}
use Rattle.std.proofs.Math.Decide.{dec_le}
use Rattle.model.specs.Basic.{filter, any, distinct, run, maximum, least_of, least_or}
use Rattle.laws_base.specs.Test.{by-test, by-either, test_of}

-- u is in the list
abbrev pub Member : ℕ → List ℕ → Type 0
Member u [] = ⊥
Member u (n ∷ l) = (u ≡ n) ⊎ Member u l

pub filter_passes : (t : ℕ → Bool) (l : List ℕ) (u : ℕ) → Member u (filter t l) → t u ≡ true
unfolding filter
filter_passes t [] u h = absurd h
filter_passes t (n ∷ l) u h =
    by-test (t n)
    (λ e. by-either (λ (p : u ≡ n). rw p e) (λ (q : Member u (filter t l)). filter_passes t l u q) (rw e at h))
    (λ e. filter_passes t l u (rw e at h))

pub filter-keeps : (t : ℕ → Bool) (l : List ℕ) (u : ℕ) → Member u l → t u ≡ true → Member u (filter t l)
unfolding filter
filter-keeps t [] u h k = h
filter-keeps t (n ∷ l) u (inl p) k = let e : t n ≡ true = rw (← p) k in rw e (inl p)
filter-keeps t (n ∷ l) u (inr q) k = by-test (t n) (λ e. rw e (inr (filter-keeps t l u q k))) (λ e. rw e (filter-keeps t l u q k))

-- the least of m and a list is one of them, and none is less
pub least-in : (m : ℕ) (l : List ℕ) → Member (least_of m l) (m ∷ l)
unfolding least_of
least-in m [] = inl refl
least-in m (n ∷ l) = chosen (dec_le m n) (least-in (min m n) l)
  where
    chosen : Dec (m ≤ n) → Member (least_of (min m n) l) (min m n ∷ l) → Member (least_of (min m n) l) (m ∷ n ∷ l)
    chosen (yes h) (inl p) = let e : min m n ≡ m = omega arith in inl (p ∙ e)
    chosen (no h) (inl p) = let e : min m n ≡ n = omega arith in inr (inl (p ∙ e))
    chosen (yes h) (inr q) = inr (inr q)
    chosen (no h) (inr q) = inr (inr q)

least-below : (m : ℕ) (l : List ℕ) → least_of m l ≤ m
unfolding least_of
least-below m [] = omega arith
least-below m (n ∷ l) = let h : least_of (min m n) l ≤ min m n = least-below (min m n) l in omega arith

least-least : (m : ℕ) (l : List ℕ) (u : ℕ) → Member u (m ∷ l) → least_of m l ≤ u
unfolding least_of
least-least m [] u (inl p) = rw p (omega arith)
least-least m [] u (inr q) = absurd q
least-least m (n ∷ l) u (inl p) = let h : least_of (min m n) l ≤ min m n = least-below (min m n) l in omega (arith, p)
least-least m (n ∷ l) u (inr (inl p)) = let h : least_of (min m n) l ≤ min m n = least-below (min m n) l in omega (arith, p)
least-least m (n ∷ l) u (inr (inr q)) = least-least (min m n) l u (inr q)

-- the same, of a list that has an element
pub or-in : (d : ℕ) (l : List ℕ) (u : ℕ) → Member u l → Member (least_or d l) l
or-in d [] u h = absurd h
or-in d (n ∷ l) u h = least-in n l

pub or-least : (d : ℕ) (l : List ℕ) (u : ℕ) → Member u l → least_or d l ≤ u
or-least d [] u h = absurd h
or-least d (n ∷ l) u h = least-least n l u h

pub in_map : (f : ℕ → ℕ) (l : List ℕ) (u : ℕ) → Member u l → Member (f u) (map f l)
in_map f [] u h = h
in_map f (n ∷ l) u (inl p) = inl (ap f p)
in_map f (n ∷ l) u (inr q) = inr (in_map f l u q)

pub in_right : (a b : List ℕ) (u : ℕ) → Member u b → Member u (a ++ b)
in_right [] b u h = h
in_right (n ∷ a) b u h = inr (in_right a b u h)

pub any-in : (n : ℕ) (l : List ℕ) → any (eqb n) l ≡ true → Member n l
unfolding any
any-in n [] h = absurd (test_of false h)
any-in n (m ∷ l) h =
    by-test (eqb n m) (λ e. inl (eqb→eq n m (test_of (eqb n m) e))) (λ e. inr (any-in n l (rw e at h)))

pub in-distinct : (l : List ℕ) (u : ℕ) → Member u l → Member u (distinct l)
unfolding distinct
in-distinct [] u h = h
in-distinct (n ∷ l) u (inl p) =
    by-test (any (eqb n) l) (λ e. rw (e, p) (in-distinct l n (any-in n l e))) (λ e. rw e (inl p))
in-distinct (n ∷ l) u (inr q) =
    by-test (any (eqb n) l) (λ e. rw e (in-distinct l u q)) (λ e. rw e (inr (in-distinct l u q)))

-- every number of [a, a + n) is in `run a n`
pub in-run : (n a y : ℕ) → a ≤ y → y < a + n → Member y (run a n)
unfolding run
in-run zero a y h k = absurd (omega arith)
in-run (suc n) a y h k = go (dec_le y a) (λ p q. in-run n (suc a) y p q)
  where
    go : Dec (y ≤ a) → (suc a ≤ y → y < suc a + n → Member y (run (suc a) n)) → Member y (run a (suc n))
    go (yes e) f = inl (le_antisymm e h)
    go (no e) f = inr (f (omega arith) (omega arith))

-- the greatest
pub max-above : (l : List ℕ) (c : ℕ) → Member c l → c ≤ maximum l
max-above [] c h = absurd h
max-above (n ∷ l) c (inl p) = omega (arith, p)
max-above (n ∷ l) c (inr q) = let h : c ≤ maximum l = max-above l c q in omega arith

pub max-below : (l : List ℕ) (u : ℕ) → ((c : ℕ) → Member c l → c ≤ u) → maximum l ≤ u
max-below [] u f = omega arith
max-below (n ∷ l) u f =
    let a : n ≤ u = f n (inl refl) in
    let b : maximum l ≤ u = max-below l u (λ c h. f c (inr h)) in
    omega arith
