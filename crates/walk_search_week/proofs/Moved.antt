-- What a search in a window says: from another origin, with more to find than the window has, and of what it leaves. Assumes nothing.
use mathlib.Core.Path.{◌≡◌, refl, sym, ◌∙◌, ap}
use mathlib.Core.Bool.{true, false}
use mathlib.Core.List.{List, [], ◌∷◌}
use Prim.Native.Nat.{ℕ, ◌+◌, ◌-◌, ◌≤◌, ◌<◌, min}
use native.Mathlib.Omega.{arith}
use borrow.Author.Tests.{lt-leb, ltb-true, ltb-false}
use lib.Dec.{ltb, leb}
use Rattle.model.specs.Blocks.{Block, block, total}
use Rattle.model.specs.Walk.{Step, search_blocks, found, gap, left}
use Rattle.laws_base.specs.Test.{by-test}
use Rattle.laws_blocks.specs.Move.{moves, total-moved}
use Rattle.walk_search_week.specs.Steps.{week_step_is, rest_of, step_after, with_left}
use Rattle.walk_search_week.specs.declared.WeekStep.{WeekStep}
use Rattle.walk_search_week.specs.declared.WeekStep.TheVariants as T

-- ---- another origin

-- a search says the same from another origin
pub search-blocks-moved : (c limit y last d : ℕ) (l : List Block) → search_blocks limit (y + c) (last + c) d (moves c l) ≡ step_after c (search_blocks limit y last d l)
unfolding search_blocks moves
search-blocks-moved c limit y last d [] =
    let e : (y + c) - (last + c) ≡ y - last = omega arith in
    by-test (ltb limit (y - last)) (λ p. rw (e, p)) (λ p. rw (e, p))
search-blocks-moved c limit y last d (b ∷ l) =
    let e : (b.start + c) - (last + c) ≡ b.start - last = omega arith in
    let f : (b.end + c) - (b.start + c) ≡ b.end - b.start = omega arith in
    let g : (b.start + c) + d ≡ (b.start + d) + c = omega arith in
    by-test (ltb limit (b.start - last))
    (λ p. rw (e, p))
    (λ p. by-test (leb d (b.end - b.start))
    (λ q. rw (e, f, p, q) (ap found g))
    (λ q. rw (e, f, p, q) (search-blocks-moved c limit y b.end (d - (b.end - b.start)) l)))

-- blocks moved twice
pub moves-twice : (a b : ℕ) (l : List Block) → moves b (moves a l) ≡ moves (a + b) l
unfolding moves
moves-twice a b [] = refl
moves-twice a b (c ∷ l) = rw (moves-twice a b l) (ap (λ (x : Block). x ∷ moves (a + b) l) (λ i. record { start = p i; end = q i }))
  where
    p : (c.start + a) + b ≡ c.start + (a + b)
    p = omega arith

    q : (c.end + a) + b ≡ c.end + (a + b)
    q = omega arith

-- ---- more to find than there is

-- where the blocks have less than c, what is to find beyond c stays
pub search-blocks-more : (c k limit y last : ℕ) (l : List Block) → total l < c → search_blocks limit y last (c + k) l ≡ with_left k (search_blocks limit y last c l)
unfolding search_blocks total
search-blocks-more c k limit y last [] h = by-test (ltb limit (y - last)) (λ p. rw p) (λ p. rw p)
search-blocks-more c k limit y last (b ∷ l) h =
    let n = b.end - b.start in
    let e : (c + k) - n ≡ (c - n) + k = omega arith in
    by-test (ltb limit (b.start - last))
    (λ p. rw p)
    (λ p. rw (p, lt-leb (c + k) n (omega arith), lt-leb c n (omega arith), e) (search-blocks-more (c - n) k limit y b.end l (omega arith)))

-- ---- what is left

-- it is no more than before, and the gap up to the window's end is not too long
pub search-blocks-rest : (limit y last d : ℕ) (l : List Block) (r m : ℕ) → search_blocks limit y last d l ≡ left r m → (r ≤ d) × (y - m ≤ limit)
unfolding search_blocks
search-blocks-rest limit y last d [] r m e = by-test (ltb limit (y - last)) (λ p. absurd (no (rw p at e))) (λ p. yes-left (ltb-false limit (y - last) p) (rw p at e))
  where
    no : gap ≡ left r m → ⊥
    no q = let z : ◌≡◌ {A = ℕ} 0 1 = cc in omega arith

    yes-left : y - last ≤ limit → left d last ≡ left r m → (r ≤ d) × (y - m ≤ limit)
    yes-left h q = let u : d ≡ r = cc in let v : last ≡ m = cc in (omega arith, omega arith)
search-blocks-rest limit y last d (b ∷ l) r m e =
    by-test (ltb limit (b.start - last))
    (λ p. absurd (none (rw p at e)))
    (λ p. by-test (leb d (b.end - b.start))
    (λ q. absurd (no (rw (p, q) at e)))
    (λ q. let h = search-blocks-rest limit y b.end (d - (b.end - b.start)) l r m (rw (p, q) at e) in (let i = h.0 in omega arith, h.1)))
  where
    none : gap ≡ left r m → ⊥
    none q = let z : ◌≡◌ {A = ℕ} 0 1 = cc in omega arith

    no : found (b.start + d) ≡ left r m → ⊥
    no q = let z : ◌≡◌ {A = ℕ} 0 1 = cc in omega arith

-- the same of an answer
pub taken-rest : (limit y last d : ℕ) (l : List Block) (r : WeekStep) → week_step_is r ≡ search_blocks limit y last d l → rest_of r ≤ d
taken-rest limit y last d l (T.Found z) e = omega arith
taken-rest limit y last d l (T.Left rest m) e = (search-blocks-rest limit y last d l rest m (sym e)).0

-- ---- a window's look, from where work last ended

more-none : (q : Step) → with_left 0 q ≡ q
more-none (found z) = refl
more-none gap = refl
more-none (left d m) = let e : d + 0 ≡ d = omega arith in rw e

-- A are the blocks by their distances from t, S those from the window's near border; what is looked for is at most c, more than the blocks have
pub search-blocks-near : (c limit x y last g w D d : ℕ) (A S : List Block) → moves x S ≡ A → g + last ≡ x → w + x ≡ y → total A < c → d ≡ min D c
    → search_blocks limit y last D A ≡ step_after last (with_left (D - d) (search_blocks limit (w + g) 0 d (moves g S)))
search-blocks-near c limit x y last g w D d A S e f h k m =
    let a : moves last (moves g S) ≡ A = moves-twice g last S ∙ ap (λ (z : ℕ). moves z S) f ∙ e in
    let b : y ≡ w + g + last = omega arith in
    let n : last ≡ 0 + last = omega arith in
    let t : total (moves g S) ≡ total A = sym (total-moved last (moves g S)) ∙ ap total a in
    sym (ap (search_blocks limit y last D) a)
    ∙ (λ i. search_blocks limit (b i) (n i) D (moves last (moves g S)))
    ∙ search-blocks-moved last limit (w + g) 0 D (moves g S)
    ∙ ap (step_after last) (capped t)
  where
    capped : total (moves g S) ≡ total A → search_blocks limit (w + g) 0 D (moves g S) ≡ with_left (D - d) (search_blocks limit (w + g) 0 d (moves g S))
    capped t =
        by-test (ltb D c)
        (λ p. let q = ltb-true D c p in let u : d ≡ D = omega arith in let v : D - d ≡ 0 = omega arith in
        rw (v, u) (sym (more-none (search_blocks limit (w + g) 0 D (moves g S)))))
        (λ p. let q = ltb-false D c p in let u : d + (D - d) ≡ D = omega arith in
        sym (ap (λ (z : ℕ). search_blocks limit (w + g) 0 z (moves g S)) u) ∙ search-blocks-more d (D - d) limit (w + g) 0 (moves g S) (omega arith))
