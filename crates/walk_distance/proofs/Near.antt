-- A window's blocks by their distances from its start: from its near border they are those of the search, moved. Assumes nothing.
use mathlib.Core.Path.{◌≡◌, refl, sym, ◌∙◌, ap, ap₂}
use mathlib.Core.List.{List, [], ◌∷◌, ◌++◌, reverse-cons, map-append}
use Prim.Native.Nat.{ℕ, ◌+◌, ◌-◌, ◌≤◌, ◌<◌}
use native.Mathlib.Omega.{arith}
use Rattle.model.specs.Blocks.{Block, block}
use Rattle.model.specs.Working.{Schedule, working}
use Rattle.model.specs.Walk.{Way, on, back, ahead, onward, backward}
use Rattle.laws_blocks.specs.Move.{moves, moves-append}
use Rattle.laws_skip.specs.WindowEnds.{Inside}
use Rattle.laws_skip.specs.Schedules.{working-inside}
use Rattle.block_pairs.proofs.Parts.{block_same}
use Rattle.walk_distance.specs.Distances.{WindowPlaced, placed_on, placed-back, seen}

-- on
near_on : (t x hi : ℕ) (l : List Block) → Inside (t + x) hi l → moves x (onward (t + x) l) ≡ onward t l
unfolding onward moves
near_on t x hi [] i = refl
near_on t x hi (b ∷ l) i =
    ap₂ {C = List Block} (λ (c : Block) (k : List Block). c ∷ k)
    (block_same (b.start - (t + x) + x) (b.end - (t + x) + x) (b.start - t) (b.end - t) (omega arith) (omega arith)) (near_on t x hi l i.3)

-- back
backward-cons : (t : ℕ) (b : Block) (l : List Block) → backward t (b ∷ l) ≡ backward t l ++ (block (t - b.end) (t - b.start) ∷ [])
unfolding backward
backward-cons t b l = rw (reverse-cons, map-append)

-- one block, seen from both
far-border : (t x y e : ℕ) → x ≤ y → y ≤ t → t - y ≤ e → e ≤ t - x → y - x - (e - (t - y)) + x ≡ t - e
far-border t x y e h k i j = omega arith

near-back : (t x y : ℕ) (l : List Block) → x ≤ y → y ≤ t → Inside (t - y) (t - x) l → moves x (backward (y - x) (onward (t - y) l)) ≡ backward t l
unfolding onward moves backward
near-back t x y [] h k i = refl
near-back t x y (b ∷ l) h k i =
    let p = i.0 in let q = i.1 in let r = i.2 in
    let lo = t - y in
    let c : Block = block (b.start - lo) (b.end - lo) in
    let d : Block = block (y - x - c.end) (y - x - c.start) in
    ap (moves x) (backward-cons (y - x) c (onward lo l)) ∙ moves-append x (backward (y - x) (onward lo l)) (d ∷ [])
    ∙ ap₂ {C = List Block} (λ (m : List Block) (z : Block). m ++ (z ∷ [])) (near-back t x y l h k i.3)
    (block_same (y - x - (b.end - lo) + x) (y - x - (b.start - lo) + x) (t - b.end) (t - b.start) (far-border t x y b.end h k (omega arith) r) (far-border t x y b.start h k p (omega arith)))
    ∙ sym (backward-cons t b l)

-- inside the window
near-inside : (lo hi : ℕ) (l : List Block) → Inside lo hi l → Inside 0 (hi - lo) (onward lo l)
unfolding onward
near-inside lo hi [] i = tt
near-inside lo hi (b ∷ l) i = let p = i.0 in let q = i.1 in let r = i.2 in (omega arith, omega arith, omega arith, near-inside lo hi l i.3)

-- ---- the window's blocks

module _ (s : Schedule) (t x y lo hi : ℕ) (h : x ≤ y) (p : List Block) (e : p ≡ onward lo (working s lo hi)) where
  into-on : lo ≡ t + x → hi ≡ t + y → moves x p ≡ ahead on s t x y
  unfolding ahead
  into-on a b =
      let f : p ≡ onward (t + x) (working s (t + x) (t + y)) = rw (a, b) at e in
      ap (moves x) f ∙ near_on t x (t + y) (working s (t + x) (t + y)) (working-inside s (t + x) (t + y) (omega arith))

  into_back : y ≤ t → lo ≡ t - y → hi ≡ t - x → moves x (backward (y - x) p) ≡ ahead back s t x y
  unfolding ahead
  into_back k a b =
      let f : p ≡ onward (t - y) (working s (t - y) (t - x)) = rw (a, b) at e in
      ap (λ (l : List Block). moves x (backward (y - x) l)) f ∙ near-back t x y (working s (t - y) (t - x)) h k (working-inside s (t - y) (t - x) (omega arith))

into-inside : (s : Schedule) (x y lo hi : ℕ) (p : List Block) → p ≡ onward lo (working s lo hi) → lo ≤ hi → hi - lo ≡ y - x → Inside 0 (y - x) p
into-inside s x y lo hi p e k d = rw e (rw d at (near-inside lo hi (working s lo hi) (working-inside s lo hi k)))

-- either way
pub into-placed : (w : Way) (s : Schedule) (t x y lo hi : ℕ) (p : List Block) → x ≤ y → WindowPlaced w t x y lo hi → p ≡ onward lo (working s lo hi) → moves x (seen w (y - x) p) ≡ ahead w s t x y
into-placed on s t x y lo hi p h (placed_on a b) e = into-on s t x y lo hi h p e a b
into-placed back s t x y lo hi p h (placed-back k a b) e = into_back s t x y lo hi h p e k a b

pub placed-inside : (w : Way) (s : Schedule) (t x y lo hi : ℕ) (p : List Block) → x ≤ y → WindowPlaced w t x y lo hi → p ≡ onward lo (working s lo hi) → Inside 0 (y - x) p
placed-inside on s t x y lo hi p h (placed_on a b) e = into-inside s x y lo hi p e (omega arith) (omega arith)
placed-inside back s t x y lo hi p h (placed-back k a b) e = into-inside s x y lo hi p e (omega arith) (omega arith)
