-- The loops of the search: what a turn keeps. Assumes nothing.
use Rattle.std.specs.Prelude.{if◌then◌else◌}
use mathlib.Core.Path.{◌≡◌, refl, sym, ◌∙◌, ap}
use mathlib.Core.Bool.{Bool, true, false}
use mathlib.Core.List.{List, [], ◌∷◌}
use Prim.Native.Nat.{ℕ, zero, suc, ◌+◌, ◌*◌, ◌-◌, ◌≤◌, ◌<◌}
use native.Mathlib.Omega.{arith}
use borrow.Author.Tests.{le-leb, lt-leb, ltb-true, ltb-false}
use lib.Dec.{ltb, leb}
use lib.ListN.{get_or}
use Rattle.model.specs.Blocks.{Block, block}
use Rattle.model.specs.Walk.{Way, on, back, Step, search_blocks, found, gap, left}
use Rattle.laws_base.specs.Test.{by-test}
use Rattle.laws_blocks.specs.Members.{NonEmpty, Ends}
use Rattle.laws_blocks.specs.Move.{moves}
use Rattle.block_pairs.specs.Pairs.{part, pairs}
use Rattle.walk_distance.specs.Distances.{way_of, rest, IsNearest}
use Rattle.walk_distance.proofs.Blocks.{rest_back, rest-on}
use Rattle.walk_distance.specs.declared.NearBlock.{NearBlock}
use Rattle.walk_search_week.specs.Steps.{WindowBlocks}

-- ---- one block

module _ (limit y end d : ℕ) (k : List Block) (whole : Step) (from to : ℕ) (rest : List Block) (e : k ≡ block from to ∷ rest) (m : search_blocks limit y end d k ≡ whole) where
  pub step-gap : ltb limit (from - end) ≡ true → gap ≡ whole
  unfolding search_blocks
  step-gap q = rw (e, q) at m

  module _ (q : ltb limit (from - end) ≡ false) (len : ℕ) (n : len ≡ to - from) where
    pub step-found : d ≤ len → found (from + d) ≡ whole
    unfolding search_blocks
    step-found h = rw (e, q, le-leb d (to - from) (omega arith)) at m

    pub step-on : len < d → search_blocks limit y to (d - len) rest ≡ whole
    unfolding search_blocks
    step-on h = ap (λ (x : ℕ). search_blocks limit y to (d - x) rest) n ∙ (rw (e, q, lt-leb d (to - from) (omega arith)) at m)

-- no block is left
module _ (limit y end d : ℕ) (k : List Block) (whole : Step) (e : k ≡ []) (m : search_blocks limit y end d k ≡ whole) where
  pub step-last : ltb limit (y - end) ≡ true → gap ≡ whole
  unfolding search_blocks
  step-last q = rw (e, q) at m

  pub step_left : ltb limit (y - end) ≡ false → left d end ≡ whole
  unfolding search_blocks
  step_left q = rw (e, q) at m

-- ---- moved by g

-- the first block, moved
pub first-moved : (g : ℕ) {k : List Block} {a b : ℕ} {rest : List Block} → k ≡ block a b ∷ rest → moves g k ≡ block (a + g) (b + g) ∷ moves g rest
unfolding moves
first-moved g e = rw e

pub none-moved : (g : ℕ) {k : List Block} → k ≡ [] → moves g k ≡ []
unfolding moves
none-moved g e = rw e

-- ---- the borders of the nearest block

-- the borders of a block lie in the window
ends_at : (w a n i : ℕ) (l : List ℕ) → NonEmpty (part a n l) → Ends w (part a n l) → a ≤ i → i < a + n → (get_or l (2 * i) 0 ≤ w) × (get_or l (2 * i + 1) 0 ≤ w)
unfolding part
ends_at w a zero i l f e h k = absurd (omega arith)
ends_at w a (suc n) i l f e h k =
    by-test (ltb a i)
    (λ p. let q = ltb-true a i p in ends_at w (suc a) n i l f.1 e.1 (omega arith) (omega arith))
    (λ p. let q = ltb-false a i p in let z : a ≡ i = omega arith in let x = f.0 in let y = e.0 in rw z at (ends-first x y))
  where
    ends-first : get_or l (2 * a) 0 < get_or l (2 * a + 1) 0 → get_or l (2 * a + 1) 0 ≤ w → (get_or l (2 * a) 0 ≤ w) × (get_or l (2 * a + 1) 0 ≤ w)
    ends-first x y = (omega arith, y)

pub on-upto : (w n i : ℕ) (l : List ℕ) → NonEmpty (pairs n l) → Ends w (pairs n l) → i < n → (get_or l (2 * i) 0 ≤ w) × (get_or l (2 * i + 1) 0 ≤ w)
on-upto w n i l f e h = ends_at w 0 n i l f e (omega arith) (omega arith)

first_of : List Block → Block
first_of [] = block 0 0
first_of (b ∷ l) = b

same_first : (a b c d : ℕ) (k l : List Block) → block a b ∷ k ≡ block c d ∷ l → (a ≡ c) × (b ≡ d)
unfolding first_of
same_first a b c d k l e = (ap (λ (x : List Block). (first_of x).start) e, ap (λ (x : List Block). (first_of x).end) e)

-- they lie in the window
pub nearest-upto : (v : Bool) (n w g i : ℕ) (l : List ℕ) (r : NearBlock) → WindowBlocks v n w g l → i < n → IsNearest v w n i l r → (r.from ≤ w) × (r.to ≤ w)
nearest-upto true n w g i l r h k e =
    let s = same_first r.from r.to (w - get_or l (2 * (n - i) - 1) 0) (w - get_or l (2 * (n - i) - 2) 0) (rest back w n (i + 1) l) (rest back w n (i + 1) l)
    (sym e ∙ rest_back w n i l (n - i) (w - get_or l (2 * (n - i) - 1) 0) (w - get_or l (2 * (n - i) - 2) 0) k refl refl refl) in
    (let a = s.0 in omega arith, let a = s.1 in omega arith)
nearest-upto false n w g i l r h k e =
    let s = same_first r.from r.to (get_or l (2 * i) 0) (get_or l (2 * i + 1) 0) (rest on w n (i + 1) l) (rest on w n (i + 1) l) (sym e ∙ rest-on w n i l k) in
    let u = on-upto w n i l (h.2 refl).0 (h.2 refl).1 k in
    (let a = s.0 in let b = u.0 in omega arith, let a = s.1 in let b = u.1 in omega arith)
