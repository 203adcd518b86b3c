-- The search in one window: its blocks in lent memory, by their distances from where work last ended. Assumes nothing.
use mathlib.Core.Path.{◌≡◌, sym, ◌∙◌, ap}
use mathlib.Core.Bool.{Bool, true, false}
use mathlib.Core.List.{List, [], ◌∷◌}
use Prim.Native.Nat.{ℕ, ◌+◌, ◌-◌, ◌≤◌, min}
use native.Mathlib.Omega.{arith}
use Rattle.model.specs.Blocks.{Block, total}
use Rattle.model.specs.Instant.{week}
use Rattle.model.specs.Working.{Schedule, working}
use Rattle.model.specs.Walk.{Way, on, back, reach, ahead, search_blocks, backward}
use Rattle.model.specs.Walk as walk
use Rattle.laws_blocks.specs.Members.{covers, NonEmpty, Ends}
use Rattle.laws_blocks.specs.Move.{moves}
use Rattle.laws_blocks.specs.Totals.{lists-most}
use Rattle.laws_blocks.specs.Turn.{seen_from, behind, onward-lists, backward-lists}
use Rattle.laws_skip.specs.WindowEnds.{Inside}
use Rattle.laws_skip.specs.Schedules.{working-lists}
use Rattle.block_pairs.specs.Pairs.{pairs}
use Rattle.walk_distance.specs.Distances.{way_of, seen}
use Rattle.walk_search_week.specs.Steps.{step_after, with_left}
use Rattle.walk_search_week.proofs.Moved.{search-blocks-near}

-- ---- the blocks

inside-nonempty : (w : ℕ) (l : List Block) → Inside 0 w l → NonEmpty l
inside-nonempty w [] i = tt
inside-nonempty w (b ∷ l) i = (i.1, inside-nonempty w l i.3)

inside-upto : (w v : ℕ) (l : List Block) → w ≡ v → Inside 0 v l → Ends w l
inside-upto w v [] e i = tt
inside-upto w v (b ∷ l) e i = (omega (arith, i.2), inside-upto w v l e i.3)

pub inside-full : (w n : ℕ) (l : List ℕ) → Inside 0 w (pairs n l) → NonEmpty (pairs n l)
inside-full w n l i = inside-nonempty w (pairs n l) i

pub inside-ends : (w v n : ℕ) (l : List ℕ) → w ≡ v → Inside 0 v (pairs n l) → Ends w (pairs n l)
inside-ends w v n l e i = inside-upto w v (pairs n l) e i

ahead-most : (w : Way) (s : Schedule) (t x y : ℕ) → x ≤ y → y ≤ reach w t → total (ahead w s t x y) ≤ y - x
unfolding ahead
ahead-most on s t x y h k =
    let W = covers (working s (t + x) (t + y)) in
    let e : t + x - t ≡ x = omega arith in
    let f : t + y - t ≡ y = omega arith in
    rw (e, f) at (lists-most (seen_from W t) (t + x - t) (t + y - t) (onward-lists W t (t + x) (t + y) (omega arith) (working-lists s (t + x) (t + y) (omega arith))))
ahead-most back s t x y h k =
    let W = covers (working s (t - y) (t - x)) in
    let e : t - (t - x) ≡ x = omega arith in
    let f : t - (t - y) ≡ y = omega arith in
    rw (e, f) at (lists-most (behind W t) (t - (t - x)) (t - (t - y)) (backward-lists W t (t - y) (t - x) (omega arith) (working-lists s (t - y) (t - x) (omega arith))))

-- ---- the search

-- by another name of the limit
pub limit_is : {l m : ℕ} (y last D : ℕ) (P : List Block) → l ≡ m → search_blocks l y last D P ≡ search_blocks m y last D P
limit_is y last D P e = ap (λ (k : ℕ). search_blocks k y last D P) e

-- from where work last ended to t
module _ (s : Schedule) (t limit x y last D g w d : ℕ) (h : x ≤ y) (i : y ≤ x + week) (j : last ≤ x) (a : g ≡ x - last) (b : w ≡ y - x) (e : d ≡ min D (week + 1)) (q : walk.Step) (P : List Block) where
  window_on : y ≤ reach on t → moves x P ≡ ahead on s t x y → q ≡ search_blocks limit (w + g) 0 d (moves g P) → step_after last (with_left (D - d) q) ≡ search_blocks limit y last D (ahead on s t x y)
  window_on k f r =
      let m = ahead-most on s t x y h k in
      ap (λ (z : walk.Step). step_after last (with_left (D - d) z)) r
      ∙ sym (search-blocks-near (week + 1) limit x y last g w D d (ahead on s t x y) P f (omega arith) (omega arith) (omega arith) e)

  window-back : y ≤ reach back t → moves x (backward (y - x) P) ≡ ahead back s t x y → q ≡ search_blocks limit (w + g) 0 d (moves g (backward w P)) → step_after last (with_left (D - d) q) ≡ search_blocks limit y last D (ahead back s t x y)
  window-back k f r =
      let m = ahead-most back s t x y h k in
      let v : moves x (backward w P) ≡ ahead back s t x y = ap (λ (z : ℕ). moves x (backward z P)) b ∙ f in
      ap (λ (z : walk.Step). step_after last (with_left (D - d) z)) r
      ∙ sym (search-blocks-near (week + 1) limit x y last g w D d (ahead back s t x y) (backward w P) v (omega arith) (omega arith) (omega arith) e)

  -- either way
  pub window_at : (v : Bool) → y ≤ reach (way_of v) t → moves x (seen (way_of v) (y - x) P) ≡ ahead (way_of v) s t x y → q ≡ search_blocks limit (w + g) 0 d (moves g (seen (way_of v) w P))
      → step_after last (with_left (D - d) q) ≡ search_blocks limit y last D (ahead (way_of v) s t x y)
  window_at true k f r = window-back k f r
  window_at false k f r = window_on k f r

-- ---- from where work last ended, one answer

module _ (last k : ℕ) where
  pub further-found : (z x : ℕ) → x ≡ last + z → walk.found x ≡ step_after last (with_left k (walk.found z))
  further-found z x q = let e : last + z ≡ z + last = omega arith in ap walk.found (q ∙ e)

pub further-left : (last D d rest m a x : ℕ) → rest ≤ d → d ≤ D → a ≡ D - (d - rest) → x ≡ last + m → walk.left a x ≡ step_after last (with_left (D - d) (walk.left rest m))
further-left last D d rest m a x i k e f =
    let u : a ≡ rest + (D - d) = omega arith in
    let v : x ≡ m + last = omega arith in
    λ i. walk.left (u i) (v i)
