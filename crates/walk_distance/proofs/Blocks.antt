-- The blocks of a window, nearest first, by their places in lent numbers. Assumes nothing.
use mathlib.Core.Path.{◌≡◌, refl, sym, ◌∙◌, ap}
use mathlib.Core.List.{List, [], ◌∷◌, map, reverse, reverse-append}
use Prim.Native.Nat.{ℕ, ◌+◌, ◌*◌, ◌-◌, ◌≤◌, ◌<◌}
use native.Mathlib.Omega.{arith}
use lib.ListN.{get_or}
use Rattle.model.specs.Blocks.{Block, block}
use Rattle.model.specs.Walk.{Way, on, back, backward}
use Rattle.block_pairs.specs.Pairs.{part, pairs}
use Rattle.block_pairs.proofs.Parts.{block_same, block_to, from_first, pairs-last}
use Rattle.walk_distance.specs.Distances.{seen, rest}

-- ---- back

-- the last block comes first
back-first : (t i : ℕ) (l : List ℕ) → 0 < i → backward t (pairs i l) ≡ block (t - get_or l (2 * i - 1) 0) (t - get_or l (2 * i - 2) 0) ∷ backward t (pairs (i - 1) l)
unfolding backward
back-first t i l h = ap (λ (x : List Block). map (λ (b : Block). block (t - b.end) (t - b.start)) (reverse x)) (pairs-last i l h) ∙ rw (reverse-append (pairs (i - 1) l) (block_to l i ∷ []))

back_end : (t i : ℕ) (l : List ℕ) → i ≤ 0 → backward t (pairs i l) ≡ []
unfolding backward part
back_end t i l h = let z : i ≡ 0 = omega arith in rw z

-- the same by the distances that the code found
back_at : (t i : ℕ) (l : List ℕ) (from to : ℕ) → 0 < i → from ≡ t - get_or l (2 * i - 1) 0 → to ≡ t - get_or l (2 * i - 2) 0
    → backward t (pairs i l) ≡ block from to ∷ backward t (pairs (i - 1) l)
back_at t i l from to h p q =
    back-first t i l h ∙ ap (λ (b : Block). b ∷ backward t (pairs (i - 1) l)) (sym (block_same from to (t - get_or l (2 * i - 1) 0) (t - get_or l (2 * i - 2) 0) p q))

-- ---- both ways

-- one block less is left behind it
pub rest_back : (w n i : ℕ) (l : List ℕ) (k from to : ℕ) → i < n → k ≡ n - i → from ≡ w - get_or l (2 * k - 1) 0 → to ≡ w - get_or l (2 * k - 2) 0
    → rest back w n i l ≡ block from to ∷ rest back w n (i + 1) l
unfolding rest
rest_back w n i l k from to h e p q =
    let f : k - 1 ≡ n - (i + 1) = omega arith in
    ap (λ (j : ℕ). backward w (pairs j l)) (sym e) ∙ back_at w k l from to (omega arith) p q ∙ ap (λ (j : ℕ). block from to ∷ backward w (pairs j l)) f

pub rest-on : (w n i : ℕ) (l : List ℕ) → i < n → rest on w n i l ≡ block (get_or l (2 * i) 0) (get_or l (2 * i + 1) 0) ∷ rest on w n (i + 1) l
unfolding rest
rest-on w n i l h = from_first i n l h

-- none is left
pub rest-none : (v : Way) (w n i : ℕ) (l : List ℕ) → n ≤ i → rest v w n i l ≡ []
unfolding part rest
rest-none on w n i l h = let e : n - i ≡ 0 = omega arith in rw e
rest-none back w n i l h = back_end w (n - i) l (omega arith)

-- all of them
pub rest_all : (v : Way) (w n : ℕ) (l : List ℕ) → seen v w (pairs n l) ≡ rest v w n 0 l
unfolding rest
rest_all on w n l = let e : n - 0 ≡ n = omega arith in rw e
rest_all back w n l = let e : n - 0 ≡ n = omega arith in rw e
