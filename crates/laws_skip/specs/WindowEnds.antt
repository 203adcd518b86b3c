-- The blocks of a window as a search sees them: each lies in the window; what `search_blocks` leaves of the time and where the last block ends; and
-- blocks moved by a week, as distances on and back.
use Rattle.std.specs.Prelude.{◌≡◌, refl, Bool, ℕ, ◌+◌, ◌-◌, ◌≤◌, ◌<◌, leb, ltb}
use Rattle.std.proofs.Common.{sym, ◌∙◌, ap, ap₂, arith, leb-true, leb-false, le-ltb}
use mathlib.Core.List.{List, [], ◌∷◌, ◌++◌, reverse-cons, map-append}
use Rattle.std.proofs.lemmas.Bool.{lt-leb}
use Rattle.model.specs.Blocks.{Block, block, total}
use Rattle.model.specs.Walk.{Step, found, gap, left, search_blocks, onward, backward}
use Rattle.laws_base.specs.Test.{by-test, never}
use Rattle.laws_blocks.specs.Lists.{Lists, none, next}
use Rattle.laws_blocks.specs.Move.{moved_block, moves, moves-append}

-- each block lies in [lo, hi] and is not empty
abbrev pub Inside : ℕ → ℕ → List Block → Type 0
Inside lo hi [] = Unit {0}
Inside lo hi (b ∷ l) = (lo ≤ b.start) × (b.start < b.end) × (b.end ≤ hi) × Inside lo hi l

pub inside-more : (lo mid hi : ℕ) (l : List Block) → lo ≤ mid → Inside mid hi l → Inside lo hi l
inside-more lo mid hi [] h i = tt
inside-more lo mid hi (b ∷ l) h i = (omega arith, i.1, i.2, inside-more lo mid hi l h i.3)

pub lists-inside : (W : ℕ → Bool) (lo hi : ℕ) {l : List Block} → Lists W lo hi l → Inside lo hi l
lists-inside W lo hi (none h e) = tt
lists-inside W lo hi (next {l = l} s e a b c i f r) = (a, b, c, inside-more lo e hi l (omega arith) (lists-inside W e hi r))

-- the end of the last block, x of none
unfoldable pub last_end : List Block → ℕ → ℕ
last_end [] x = x
last_end (b ∷ l) x = last_end l b.end

pub end-any : (l : List Block) → 0 < total l → (x y : ℕ) → last_end l x ≡ last_end l y
unfolding total last_end
end-any [] h x y = absurd (omega arith)
end-any (b ∷ l) h x y = refl

pub end-inside : (lo hi : ℕ) (l : List Block) → Inside lo hi l → (x : ℕ) → lo ≤ x → x ≤ hi → (lo ≤ last_end l x) × (last_end l x ≤ hi)
unfolding last_end
end-inside lo hi [] i x a b = (a, b)
end-inside lo hi (c ∷ l) i x a b = end-inside lo hi l i.3 c.end (omega arith) i.2

pub end_moved : (w : ℕ) (l : List Block) (x : ℕ) → last_end (moves w l) (x + w) ≡ last_end l x + w
unfolding last_end moves
end_moved w [] x = refl
end_moved w (b ∷ l) x = end_moved w l b.end

-- ---- what `search_blocks` leaves

-- of a window that takes less than d, with no gap that is too long
pub search-blocks-all : (limit lo hi : ℕ) (l : List Block) → Inside lo hi l → (last d : ℕ) → hi ≤ lo + limit → hi ≤ last + limit → total l < d
    → search_blocks limit hi last d l ≡ left (d - total l) (last_end l last)
unfolding search_blocks total last_end
search-blocks-all limit lo hi [] i last d a b c = rw (le-ltb limit (hi - last) (omega arith)) (ap (λ x. left x last) (omega arith))
search-blocks-all limit lo hi (x ∷ l) i last d a b c =
    rw (le-ltb limit (x.start - last) (omega arith), lt-leb d (x.end - x.start) (omega arith))
    (search-blocks-all limit lo hi l i.3 x.end (d - (x.end - x.start)) a (omega arith) (omega arith) ∙ ap (λ y. left y (last_end l x.end)) (omega arith))

-- where a window's walk ends: at a distance of the window, by a gap, or with time left and the end of the last block
pub data WalkEnds (lo hi last d : ℕ) (l : List Block) : Step → Type 0 where
  is_found : {z : ℕ} → lo < z → z ≤ hi → WalkEnds lo hi last d l (found z)
  is-gap : WalkEnds lo hi last d l gap
  is-left : {e m : ℕ} → e ≡ d - total l → total l < d → m ≡ last_end l last → WalkEnds lo hi last d l (left e m)

walk-ends-later : {lo hi last d : ℕ} {l : List Block} {s : Step} (b : Block) → WalkEnds lo hi b.end (d - (b.end - b.start)) l s → b.end - b.start < d → WalkEnds lo hi last d (b ∷ l) s
unfolding total last_end
walk-ends-later b (is_found h k) n = is_found h k
walk-ends-later b is-gap n = is-gap
walk-ends-later b (is-left {e = e} {m = m} p q r) n = is-left {e = e} {m = m} (omega arith) (omega arith) r

pub search-blocks-means : (limit lo hi : ℕ) (l : List Block) → Inside lo hi l → (last d : ℕ) → 0 < d → WalkEnds lo hi last d l (search_blocks limit hi last d l)
unfolding search_blocks total last_end
search-blocks-means limit lo hi [] i last d h = by-test (ltb limit (hi - last)) (λ p. rw p is-gap) (λ p. rw p (is-left {e = d} {m = last} (omega arith) h refl))
search-blocks-means limit lo hi (b ∷ l) i last d h =
    by-test (ltb limit (b.start - last))
    (λ p. rw p is-gap)
    (λ p. by-test (leb d (b.end - b.start))
    (λ q. let k = leb-true d (b.end - b.start) q in rw (p, q) (is_found {z = b.start + d} (omega arith) (omega arith)))
    (λ q. let k = leb-false d (b.end - b.start) q in rw (p, q) (walk-ends-later b (search-blocks-means limit lo hi l i.3 b.end (d - (b.end - b.start)) (omega arith)) k)))

pub end-upto : (lo hi : ℕ) (l : List Block) → Inside lo hi l → (x : ℕ) → x ≤ hi → last_end l x ≤ hi
unfolding last_end
end-upto lo hi [] i x h = h
end-upto lo hi (b ∷ l) i x h = end-upto lo hi l i.3 b.end i.2

-- what is known where it is found, and where time is left
module _ (limit lo hi : ℕ) (l : List Block) (i : Inside lo hi l) (last d : ℕ) (h : 0 < d) where
  pub search-blocks-left : (e m : ℕ) → search_blocks limit hi last d l ≡ left e m → (e ≡ d - total l) × (total l < d) × (m ≡ last_end l last)
  search-blocks-left e m f = by (search_blocks limit hi last d l) (search-blocks-means limit lo hi l i last d h) f
    where
      by : (s : Step) → WalkEnds lo hi last d l s → s ≡ left e m → (e ≡ d - total l) × (total l < d) × (m ≡ last_end l last)
      by s (is-left {e = x} {m = y} a b c) f = let q : x ≡ e = cc in let r : y ≡ m = cc in (omega arith, b, omega arith)
      by s is-gap f = never (cc)
      by s (is_found a b) f = never (cc)

-- ---- a week apart, as distances

abbrev same_block : (s s' e e' : ℕ) → s ≡ s' → e ≡ e' → block s e ≡ block s' e'
same_block s s' e e' p q = λ i. record { start = p i; end = q i }

pub onward-moved : (t w lo hi : ℕ) (l : List Block) → t ≤ lo → Inside lo hi l → onward t (moves w l) ≡ moves w (onward t l)
unfolding onward moves
onward-moved t w lo hi [] h i = refl
onward-moved t w lo hi (b ∷ l) h i =
    ap₂ ◌∷◌ (same_block (b.start + w - t) (b.start - t + w) (b.end + w - t) (b.end - t + w) (omega arith) (omega arith)) (onward-moved t w lo hi l h i.3)

pub onward-total : (t lo hi : ℕ) (l : List Block) → t ≤ lo → Inside lo hi l → total (onward t l) ≡ total l
unfolding onward total
onward-total t lo hi [] h i = refl
onward-total t lo hi (b ∷ l) h i = rw (onward-total t lo hi l h i.3) (omega arith)

pub backward-none : (t : ℕ) → backward t [] ≡ []
unfolding backward
backward-none t = refl

pub backward-cons : (t : ℕ) (b : Block) (l : List Block) → backward t (b ∷ l) ≡ backward t l ++ (block (t - b.end) (t - b.start) ∷ [])
unfolding backward
backward-cons t b l = rw (reverse-cons, map-append)

pub backward-moved : (t w lo hi : ℕ) (l : List Block) → hi + w ≤ t → Inside lo hi l → moves w (backward t (moves w l)) ≡ backward t l
unfolding moves
backward-moved t w lo hi [] h i = ap (moves w) (backward-none t) ∙ sym (backward-none t)
backward-moved t w lo hi (b ∷ l) h i =
    rw (backward-cons t (moved_block w b) (moves w l), backward-cons t b l, moves-append w (backward t (moves w l)) (block (t - (b.end + w)) (t - (b.start + w)) ∷ []), backward-moved t w lo hi l h i.3)
    (ap (λ x. backward t l ++ (x ∷ [])) (same_block (t - (b.end + w) + w) (t - b.end) (t - (b.start + w) + w) (t - b.start) (omega arith) (omega arith)))
