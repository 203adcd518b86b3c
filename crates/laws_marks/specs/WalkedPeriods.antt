-- The period calls by a walk over the marked blocks of a schedule, on and back: they tell what the calls that look the marks up tell.
use Rattle.std.specs.Prelude.{◌≡◌, eqb, ℤ, pos}
use Rattle.std.proofs.Math.Path.{refl, sym, ap}
use Rattle.std.proofs.Common.{◌∙◌, ap₂, arith, eqb-true, eq-eqb, ne_eqb}
use mathlib.Core.List.{List, [], ◌∷◌, ◌++◌, map, reverse, reverse-cons, map-append}
use Prim.Native.Nat.{ℕ, zero, suc, ◌+◌, ◌-◌, ◌≤◌, ◌<◌, min}
use Rattle.std.proofs.lemmas.Bool.{eqb-false}
use Rattle.model.specs.Instant.{week, instant_of}
use Rattle.model.specs.Answer.{Answer, gives, refuses, ◌>>=◌}
use Rattle.model.specs.Blocks.{Block, block}
use Rattle.model.specs.Working.{Schedule, working, blocks_of_all}
use Rattle.model.specs.Walk.{Way, on, back, reach, onward, backward, ahead, begun, nothing, period_from, period}
use Rattle.model.specs.Calls.{ends}
use Rattle.model.specs.Marks.{edge, MarkedBlock, marked, marked_working, start_mark_at, end_mark_at, window_of_start, window_of_end, marked_ahead, start_of_period, end_of_period, marked_period_call}
use Rattle.laws_base.specs.Test.{by-test}
use Rattle.laws_base.specs.Every.{Every, every_map, every-both}
use Rattle.laws_blocks.specs.Members.{Chain, Ends, chain-weaken}
use Rattle.laws_blocks.specs.Left.{left-chain}
use Rattle.laws_demand3.specs.Windows.{off_rules, all_in, all-nonempty}
use Rattle.laws_skip.specs.WindowEnds.{backward-cons}
use Rattle.laws_marks.specs.Forget.{forget, append-forgets}
use Rattle.laws_marks.specs.Instants.{working-forgets}
use Rattle.laws_marks.specs.MarkedWalk.{none_yet, marked_from, near_mark, far_mark, with_marks, walk_begins}

-- ---- the calls

-- marked blocks as distances from t, nearest first
abbrev pub onward_marked : ℕ → MarkedBlock → MarkedBlock
onward_marked t b = marked (edge (b.start.at - t) b.start.mark) (edge (b.end.at - t) b.end.mark)

abbrev pub backward_marked : ℕ → MarkedBlock → MarkedBlock
backward_marked t b = marked (edge (t - b.end.at) b.end.mark) (edge (t - b.start.at) b.start.mark)

unfoldable pub marked_look : Way → Schedule → ℕ → ℕ → ℕ → List MarkedBlock
marked_look on s t x y = map (onward_marked t) (marked_working s (t + x) (t + y))
marked_look back s t x y = map (backward_marked t) (reverse (marked_working s (t - y) (t - x)))

abbrev pub walked_period : Way → Schedule → ℕ → Answer MarkedBlock
walked_period w s t = marked_from (begun (reach w t)) (marked_look w s t) s.limit (reach w t) 0 none_yet

-- the marks of its start and end
abbrev pub marks_by : Way → MarkedBlock → List ℤ
marks_by on p = pos p.start.mark ∷ pos p.end.mark ∷ []
marks_by back p = pos p.end.mark ∷ pos p.start.mark ∷ []

unfoldable pub walked_period_call : Way → Schedule → ℤ → ℤ → Answer (List ℤ)
walked_period_call w s t₁ t₂ =
    instant_of t₁ t₂ >>= λ t.
    walked_period w s t >>= λ p.
    gives (ends w t (forget p) ++ marks_by w p)

-- ---- a window's blocks lie in it, with gaps between

working-chain : (s : Schedule) (lo hi : ℕ) → Chain lo (map forget (marked_working s lo hi)) × Ends hi (map forget (marked_working s lo hi))
unfolding working
working-chain s lo hi =
    rw (working-forgets s lo hi)
    (left-chain lo hi (blocks_of_all lo hi s.work) (blocks_of_all lo hi (off_rules s)) (all-nonempty lo hi s.work) (all-nonempty lo hi (off_rules s)) (all_in lo hi s.work))

-- ---- on

on-forgets : (t : ℕ) (l : List MarkedBlock) → map forget (map (onward_marked t) l) ≡ onward t (map forget l)
unfolding onward
on-forgets t [] = refl
on-forgets t (b ∷ l) = ap (λ k. block (b.start.at - t) (b.end.at - t) ∷ k) (on-forgets t l)

module _ (t : ℕ) where
  on_chain : (m hi : ℕ) (l : List MarkedBlock) → t ≤ m → Chain m (map forget l) → Ends hi (map forget l) → Chain (m - t) (map forget (map (onward_marked t) l)) × Ends (hi - t) (map forget (map (onward_marked t) l))
  on_chain m hi [] h c n = (tt, tt)
  on_chain m hi (b ∷ l) h c n =
      let a = c.0 in
      let e = c.1 in
      let z = n.0 in
      let r = on_chain (suc b.end.at) hi l (omega arith) c.2 n.1 in (
        (omega arith, omega arith, chain-weaken (suc (b.end.at - t)) (suc b.end.at - t) (map forget (map (onward_marked t) l)) (omega arith) r.0),
        (omega arith, r.1),
      )

  -- an end at a distance on
  eqb-on : (a u : ℕ) → t ≤ a → eqb (a - t) u ≡ eqb a (t + u)
  eqb-on a u h = by-test (eqb a (t + u)) (λ q. eq-eqb (a - t) u (omega (arith, eqb-true a (t + u) q)) ∙ sym q) (λ q. ne_eqb (a - t) u (λ p. eqb-false a (t + u) q (omega arith)) ∙ sym q)

  on-start : (u m : ℕ) (l : List MarkedBlock) → t ≤ m → Chain m (map forget l) → start_mark_at u (map (onward_marked t) l) ≡ start_mark_at (t + u) l
  unfolding start_mark_at
  on-start u m [] h c = refl
  on-start u m (b ∷ l) h c = rw (eqb-on b.start.at u (omega (arith, c.0))) (by-test (eqb b.start.at (t + u)) (λ q. rw q) (λ q. rw q (on-start u (suc b.end.at) l (omega (arith, c.0, c.1)) c.2)))

  on-end : (u m : ℕ) (l : List MarkedBlock) → t ≤ m → Chain m (map forget l) → end_mark_at u (map (onward_marked t) l) ≡ end_mark_at (t + u) l
  unfolding end_mark_at
  on-end u m [] h c = refl
  on-end u m (b ∷ l) h c = rw (eqb-on b.end.at u (omega (arith, c.0, c.1))) (by-test (eqb b.end.at (t + u)) (λ q. rw q) (λ q. rw q (on-end u (suc b.end.at) l (omega (arith, c.0, c.1)) c.2)))

-- ---- back

-- the last of a list
chain-last : (m : ℕ) (l : List MarkedBlock) (b : MarkedBlock) → Chain m (map forget l) → Every (λ (d : MarkedBlock). d.end.at < b.start.at) l → m ≤ b.start.at → b.start.at < b.end.at → Chain m (map forget (l ++ b ∷ []))
chain-last m [] b c n h k = (h, k, tt)
chain-last m (d ∷ l) b c n h k = (c.0, c.1, chain-last (suc d.end.at) l b c.2 n.1 n.0 k)

start-last : (u : ℕ) (l : List MarkedBlock) (b : MarkedBlock) → b.start.at ≡ u → Every (λ (d : MarkedBlock). d.start.at ≡ u → ⊥) l → start_mark_at u (l ++ b ∷ []) ≡ b.start.mark
unfolding start_mark_at
start-last u [] b e n = rw (eq-eqb b.start.at u e)
start-last u (d ∷ l) b e n = rw (ne_eqb d.start.at u n.0) (start-last u l b e n.1)

start-other : (u : ℕ) (l : List MarkedBlock) (b : MarkedBlock) → (b.start.at ≡ u → ⊥) → start_mark_at u (l ++ b ∷ []) ≡ start_mark_at u l
unfolding start_mark_at
start-other u [] b e = rw (ne_eqb b.start.at u e)
start-other u (d ∷ l) b e = by-test (eqb d.start.at u) (λ q. rw q) (λ q. rw q (start-other u l b e))

end-last : (u : ℕ) (l : List MarkedBlock) (b : MarkedBlock) → b.end.at ≡ u → Every (λ (d : MarkedBlock). d.end.at ≡ u → ⊥) l → end_mark_at u (l ++ b ∷ []) ≡ b.end.mark
unfolding end_mark_at
end-last u [] b e n = rw (eq-eqb b.end.at u e)
end-last u (d ∷ l) b e n = rw (ne_eqb d.end.at u n.0) (end-last u l b e n.1)

end-other : (u : ℕ) (l : List MarkedBlock) (b : MarkedBlock) → (b.end.at ≡ u → ⊥) → end_mark_at u (l ++ b ∷ []) ≡ end_mark_at u l
unfolding end_mark_at
end-other u [] b e = rw (ne_eqb b.end.at u e)
end-other u (d ∷ l) b e = by-test (eqb d.end.at u) (λ q. rw q) (λ q. rw q (end-other u l b e))

module _ (t : ℕ) where
  abbrev turned_list : List MarkedBlock → List MarkedBlock
  turned_list l = map (backward_marked t) (reverse l)

  turned-cons : (b : MarkedBlock) (l : List MarkedBlock) → turned_list (b ∷ l) ≡ turned_list l ++ backward_marked t b ∷ []
  turned-cons b l = rw (reverse-cons, map-append)

  back-forgets : (l : List MarkedBlock) → map forget (turned_list l) ≡ backward t (map forget l)
  unfolding backward
  back-forgets [] = refl
  back-forgets (b ∷ l) =
      ap (map forget) (turned-cons b l) ∙ append-forgets (turned_list l) (backward_marked t b ∷ []) ∙ ap (λ k. k ++ block (t - b.end.at) (t - b.start.at) ∷ []) (back-forgets l) ∙
      sym (backward-cons t (forget b) (map forget l))

  -- a block that was m or later
  abbrev Turned : ℕ → MarkedBlock → Type 0
  Turned m d = (d.end.at + m ≤ t) × (d.start.at < d.end.at)

  back-chain : (m hi : ℕ) (l : List MarkedBlock) → hi ≤ t → Chain m (map forget l) → Ends hi (map forget l) → Chain (t - hi) (map forget (turned_list l)) × Every (Turned m) (turned_list l)
  back-chain m hi [] h c n = (tt, tt)
  back-chain m hi (b ∷ l) h c n =
      let a = c.0 in
      let e = c.1 in
      let z = n.0 in
      let r = back-chain (suc b.end.at) hi l h c.2 n.1 in
      rw (turned-cons b l) (
        chain-last (t - hi) (turned_list l) (backward_marked t b) r.0 (every_map (Turned (suc b.end.at)) (λ (d : MarkedBlock). d.end.at < t - b.end.at) (λ d k. omega (arith, k.0)) (turned_list l) r.1) (omega arith) (omega arith),
        every-both (Turned m) (turned_list l) (backward_marked t b ∷ []) (every_map (Turned (suc b.end.at)) (Turned m) (λ d k. (omega (arith, k.0), k.1)) (turned_list l) r.1) ((omega arith, omega arith), tt),
      )

  -- an end at a distance back
  module _ (u a : ℕ) (p : 0 < a) (h : a ≤ t) where
    turned-yes : a ≡ t - u → t - a ≡ u
    turned-yes e = omega arith

    turned-no : (a ≡ t - u → ⊥) → t - a ≡ u → ⊥
    turned-no n e = n (omega arith)

  back_start : (u m hi : ℕ) (l : List MarkedBlock) → hi ≤ t → Chain m (map forget l) → Ends hi (map forget l) → start_mark_at u (turned_list l) ≡ end_mark_at (t - u) l
  unfolding start_mark_at end_mark_at
  back_start u m hi [] h c n = refl
  back_start u m hi (b ∷ l) h c n =
      let a : 0 < b.end.at = omega (arith, c.1) in
      let z : b.end.at ≤ t = omega (arith, n.0) in
      let r = (back-chain (suc b.end.at) hi l h c.2 n.1).1 in
      rw (turned-cons b l)
      (by-test (eqb b.end.at (t - u))
      (λ q. rw q
      (let e = turned-yes u b.end.at a z (eqb-true b.end.at (t - u) q) in
      start-last u (turned_list l) (backward_marked t b) e (every_map (Turned (suc b.end.at)) (λ (d : MarkedBlock). d.start.at ≡ u → ⊥) (λ d k i. omega (arith, k.0, k.1)) (turned_list l) r)))
      (λ q. rw q (start-other u (turned_list l) (backward_marked t b) (turned-no u b.end.at a z (eqb-false b.end.at (t - u) q)) ∙ back_start u (suc b.end.at) hi l h c.2 n.1)))

  back_end : (u m hi : ℕ) (l : List MarkedBlock) → 0 < m → hi ≤ t → Chain m (map forget l) → Ends hi (map forget l) → end_mark_at u (turned_list l) ≡ start_mark_at (t - u) l
  unfolding start_mark_at end_mark_at
  back_end u m hi [] o h c n = refl
  back_end u m hi (b ∷ l) o h c n =
      let a : 0 < b.start.at = omega (arith, c.0) in
      let z : b.start.at ≤ t = omega (arith, n.0, c.1) in
      let y = c.1 in
      let r = (back-chain (suc b.end.at) hi l h c.2 n.1).1 in
      rw (turned-cons b l)
      (by-test (eqb b.start.at (t - u))
      (λ q. rw q
      (let e = turned-yes u b.start.at a z (eqb-true b.start.at (t - u) q) in
      end-last u (turned_list l) (backward_marked t b) e (every_map (Turned (suc b.end.at)) (λ (d : MarkedBlock). d.end.at ≡ u → ⊥) (λ d k i. omega (arith, k.0, k.1)) (turned_list l) r)))
      (λ q. rw q (end-other u (turned_list l) (backward_marked t b) (turned-no u b.start.at a z (eqb-false b.start.at (t - u) q)) ∙ back_end u (suc b.end.at) hi l (omega arith) h c.2 n.1)))

-- ---- both ways

look-forgets : (w : Way) (s : Schedule) (t x y : ℕ) → map forget (marked_look w s t x y) ≡ ahead w s t x y
unfolding marked_look ahead
look-forgets on s t x y = on-forgets t (marked_working s (t + x) (t + y)) ∙ ap (onward t) (working-forgets s (t + x) (t + y))
look-forgets back s t x y = back-forgets t (marked_working s (t - y) (t - x)) ∙ ap (backward t) (working-forgets s (t - y) (t - x))

every-ends : (y : ℕ) (l : List MarkedBlock) → Every (λ (d : MarkedBlock). d.end.at ≤ y) l → Ends y (map forget l)
every-ends y [] n = tt
every-ends y (b ∷ l) n = (n.0, every-ends y l n.1)

look-lies : (w : Way) (s : Schedule) (t x y : ℕ) → x ≤ y → y ≤ reach w t → Chain x (map forget (marked_look w s t x y)) × Ends y (map forget (marked_look w s t x y))
unfolding marked_look
look-lies on s t x y h k =
    let c = working-chain s (t + x) (t + y) in
    let p : t + x - t ≡ x = omega arith in
    let q : t + y - t ≡ y = omega arith in
    rw (p, q) at (on_chain t (t + x) (t + y) (marked_working s (t + x) (t + y)) (omega arith) c.0 c.1)
look-lies back s t x y h k =
    let c = working-chain s (t - y) (t - x) in
    let l = marked_working s (t - y) (t - x) in
    let p : t - (t - x) ≡ x = omega arith in
    let r = back-chain t (t - y) (t - x) l (omega arith) c.0 c.1 in
    (rw p at r.0, every-ends y (turned_list t l) (every_map (Turned t (t - y)) (λ (d : MarkedBlock). d.end.at ≤ y) (λ d i. omega (arith, i.0)) (turned_list t l) r.1))

-- the walk, with the marks looked up
walked-told : (w : Way) (s : Schedule) (t : ℕ) → 0 < s.limit → walked_period w s t ≡ (period w s t >>= λ p. gives (with_marks (marked_look w s t) (reach w t) p))
walked-told w s t h =
    walk_begins (marked_look w s t) s.limit (reach w t) h (look-lies w s t) ∙
    ap (λ look. period_from (begun (reach w t)) look s.limit (reach w t) 0 nothing >>= λ p. gives (with_marks (marked_look w s t) (reach w t) p)) (λ i x y. look-forgets w s t x y i)

module _ (s : Schedule) (t u : ℕ) where
  on-near : near_mark (marked_look on s t) (reach on t) u ≡ start_mark_at (t + u) (marked_ahead on s t (window_of_start u))
  unfolding marked_look marked_ahead
  on-near =
      let x = window_of_start u in
      let y = min (x + week) (reach on t) in
      on-start t u (t + x) (marked_working s (t + x) (t + y)) (omega arith) (working-chain s (t + x) (t + y)).0

  on-far : far_mark (marked_look on s t) (reach on t) u ≡ end_mark_at (t + u) (marked_ahead on s t (window_of_end u))
  unfolding marked_look marked_ahead
  on-far =
      let x = window_of_end u in
      let y = min (x + week) (reach on t) in
      on-end t u (t + x) (marked_working s (t + x) (t + y)) (omega arith) (working-chain s (t + x) (t + y)).0

  back-near : near_mark (marked_look back s t) (reach back t) u ≡ end_mark_at (t - u) (marked_ahead back s t (window_of_start u))
  unfolding marked_look marked_ahead
  back-near =
      let x = window_of_start u in
      let y = min (x + week) (reach back t) in
      let c = working-chain s (t - y) (t - x) in
      back_start t u (t - y) (t - x) (marked_working s (t - y) (t - x)) (omega arith) c.0 c.1

  back-far : 0 < t → far_mark (marked_look back s t) (reach back t) u ≡ start_mark_at (t - u) (marked_ahead back s t (window_of_end u))
  unfolding marked_look marked_ahead
  back-far h =
      let x = window_of_end u in
      let y = min (x + week) (reach back t) in
      let c = working-chain s (t - y) (t - x) in
      back_end t u (t - y) (t - x) (marked_working s (t - y) (t - x)) (omega arith) (omega arith) c.0 c.1

same-bind : (T : Block → MarkedBlock) (f : MarkedBlock → Answer (List ℤ)) (g : Block → Answer (List ℤ)) → ((p : Block) → f (T p) ≡ g p) → (a : Answer Block) → ((a >>= λ p. gives (T p)) >>= f) ≡ (a >>= g)
same-bind T f g h (gives p) = h p
same-bind T f g h (refuses n k) = refl

-- what the calls tell of an instant in range
abbrev by_walk : Way → Schedule → ℕ → Answer (List ℤ)
by_walk w s t = walked_period w s t >>= λ p. gives (ends w t (forget p) ++ marks_by w p)

abbrev by_looking : Way → Schedule → ℕ → Answer (List ℤ)
by_looking w s t = period w s t >>= λ p. gives (ends w t p ++ pos (start_of_period w s t p) ∷ pos (end_of_period w s t p) ∷ [])

same_at : (w : Way) (s : Schedule) (t : ℕ) → 0 < s.limit → by_walk w s t ≡ by_looking w s t
unfolding marked_from period_from
same_at on s t h =
    ap (λ a. a >>= λ p. gives (ends on t (forget p) ++ marks_by on p)) (walked-told on s t h) ∙
    same-bind (with_marks (marked_look on s t) (reach on t)) (λ p. gives (ends on t (forget p) ++ marks_by on p)) (λ p. gives (ends on t p ++ pos (start_of_period on s t p) ∷ pos (end_of_period on s t p) ∷ []))
    (λ p. ap₂ (λ m n. gives (ends on t p ++ pos m ∷ pos n ∷ [])) (on-near s t p.start) (on-far s t p.end))
    (period on s t)
same_at back s zero h = refl
same_at back s (suc v) h =
    let t = suc v in
    ap (λ a. a >>= λ p. gives (ends back t (forget p) ++ marks_by back p)) (walked-told back s t h) ∙
    same-bind (with_marks (marked_look back s t) (reach back t)) (λ p. gives (ends back t (forget p) ++ marks_by back p)) (λ p. gives (ends back t p ++ pos (start_of_period back s t p) ∷ pos (end_of_period back s t p) ∷ []))
    (λ p. ap₂ (λ m n. gives (ends back t p ++ pos m ∷ pos n ∷ [])) (back-far s t p.end (omega arith)) (back-near s t p.start))
    (period back s t)

-- the walk over marked blocks tells what `marked_period_call` does
pub walked-period : (w : Way) (s : Schedule) (t₁ t₂ : ℤ) → 0 < s.limit → walked_period_call w s t₁ t₂ ≡ marked_period_call w s t₁ t₂
unfolding walked_period_call marked_period_call
walked-period w s t₁ t₂ h = go (instant_of t₁ t₂)
  where
    go : (a : Answer ℕ) → (a >>= λ t. by_walk w s t) ≡ (a >>= λ t. by_looking w s t)
    go (gives t) = same_at w s t h
    go (refuses n p) = refl
