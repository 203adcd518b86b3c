-- The marks of a period by the walk itself. A walk over marked blocks keeps the first start and the last end that it meets; windows and the search
-- limit move ends as the request says. It gives the marks that `start_of_period` and `end_of_period` look up.
use Rattle.std.specs.Prelude.{◌≡◌, ◌||◌, leb, ltb, eqb, if◌then◌else◌}
use Rattle.std.proofs.Math.Path.{refl, ap}
use Rattle.std.proofs.Common.{sym, ◌∙◌, ap₂}
use mathlib.Core.List.{List, [], ◌∷◌, map}
use Prim.Native.Nat.{ℕ, zero, suc, ◌+◌, ◌*◌, ◌-◌, ◌≤◌, ◌<◌, min}
use native.Mathlib.Omega.{arith}
use borrow.Author.Tests.{ltb-true, ltb-false, leb-false, eq-eqb, ne_eqb}
use Rattle.model.specs.Instant.{week}
use Rattle.model.specs.Answer.{Answer, gives, refuses, ◌>>=◌}
use Rattle.model.specs.Blocks.{Block}
use Rattle.model.specs.Walk.{begun, PeriodSoFar, nothing, growing, ended, too_far, period_in, period_from, capped}
use Rattle.model.specs.Marks.{Edge, edge, MarkedBlock, marked, plain, not_behind, start_mark_at, end_mark_at, window_of_start, window_of_end}
use Rattle.laws_base.specs.Test.{by-test}
use Rattle.laws_blocks.specs.Members.{Chain, Ends}
use Rattle.laws_marks.specs.Forget.{forget}

-- ---- the walk

-- nothing so far, a period that may go on, one that has ended, or a first block too far off
pub data MarkedSoFar : Type 0 where
  none_yet : MarkedSoFar
  going_on : Edge → Edge → MarkedSoFar
  stopped : Edge → Edge → MarkedSoFar
  far_off : MarkedSoFar

-- as `period_in`: a block that joins at a window's border gives its end
unfoldable pub marked_in : ℕ → MarkedSoFar → List MarkedBlock → MarkedSoFar
marked_in limit h [] = h
marked_in limit none_yet (b ∷ l) = let r = marked_in limit (going_on b.start b.end) l in if ltb limit b.start.at then far_off else r
marked_in limit (going_on f e) (b ∷ l) = let r = marked_in limit (going_on f b.end) l in if eqb b.start.at e.at then r else stopped f e
marked_in limit (stopped f e) (b ∷ l) = stopped f e
marked_in limit far_off (b ∷ l) = far_off

-- an end moved by the search limit is plain
abbrev pub capped_marked : ℕ → Edge → Edge → MarkedBlock
capped_marked limit f e = marked f (not_behind (f.at + limit) e)

abbrev pub marked_at_end : ℕ → MarkedSoFar → Answer MarkedBlock
marked_at_end limit none_yet = refuses 7 0
marked_at_end limit (going_on f e) = gives (capped_marked limit f e)
marked_at_end limit (stopped f e) = gives (capped_marked limit f e)
marked_at_end limit far_off = refuses 6 0

-- behind a window that ends at y
abbrev pub marked_after : ℕ → ℕ → (MarkedSoFar → Answer MarkedBlock) → MarkedSoFar → Answer MarkedBlock
marked_after limit y rest none_yet = if ltb limit y then refuses 6 0 else rest none_yet
marked_after limit y rest (going_on f e) = if ltb e.at y || leb limit (e.at - f.at) then gives (capped_marked limit f e) else rest (going_on f e)
marked_after limit y rest (stopped f e) = gives (capped_marked limit f e)
marked_after limit y rest far_off = refuses 6 0

-- as `period_from`
unfoldable pub marked_from : ℕ → (ℕ → ℕ → List MarkedBlock) → ℕ → ℕ → ℕ → MarkedSoFar → Answer MarkedBlock
marked_from zero look limit end x h = marked_at_end limit h
marked_from (suc n) look limit end x h = let y = min (x + week) end in marked_after limit y (marked_from n look limit end y) (marked_in limit h (look x y))

-- ---- without the marks it is the walk of the period

abbrev so_far : MarkedSoFar → PeriodSoFar
so_far none_yet = nothing
so_far (going_on f e) = growing f.at e.at
so_far (stopped f e) = ended f.at e.at
so_far far_off = too_far

in-forgets : (limit : ℕ) (h : MarkedSoFar) (l : List MarkedBlock) → so_far (marked_in limit h l) ≡ period_in limit (so_far h) (map forget l)
unfolding marked_in period_in
in-forgets limit none_yet [] = refl
in-forgets limit (going_on f e) [] = refl
in-forgets limit (stopped f e) [] = refl
in-forgets limit far_off [] = refl
in-forgets limit none_yet (b ∷ l) = by-test (ltb limit b.start.at) (λ q. rw q) (λ q. rw q (in-forgets limit (going_on b.start b.end) l))
in-forgets limit (going_on f e) (b ∷ l) = by-test (eqb b.start.at e.at) (λ q. rw q (in-forgets limit (going_on f b.end) l)) (λ q. rw q)
in-forgets limit (stopped f e) (b ∷ l) = refl
in-forgets limit far_off (b ∷ l) = refl

-- what `period_from` does behind a window
abbrev period_after : ℕ → ℕ → (PeriodSoFar → Answer Block) → PeriodSoFar → Answer Block
period_after limit y rest h =
    elim h [
      | nothing ↦ (if ltb limit y then refuses 6 0 else rest nothing)
      | growing f e ↦ (if ltb e y || leb limit (e - f) then gives (capped limit f e) else rest (growing f e))
      | ended f e ↦ gives (capped limit f e)
      | too_far ↦ refuses 6 0
    ]

period-step : (n : ℕ) (look : ℕ → ℕ → List Block) (limit end x : ℕ) (h : PeriodSoFar)
    → period_from (suc n) look limit end x h ≡ period_after limit (min (x + week) end) (period_from n look limit end (min (x + week) end)) (period_in limit h (look x (min (x + week) end)))
unfolding period_from
period-step n look limit end x h = refl

-- ---- no block ends before the first one's end

no-end-at : (u m : ℕ) (l : List MarkedBlock) → Chain m (map forget l) → u < m → end_mark_at u l ≡ plain
unfolding end_mark_at
no-end-at u m [] c h = refl
no-end-at u m (b ∷ l) c h = rw (ne_eqb b.end.at u (λ q. omega (arith, c.0, c.1))) (no-end-at u (suc b.end.at) l c.2 (omega (arith, c.0, c.1)))

-- ---- marks looked up in the windows of a walk

-- of a period's near end, and of its far end
abbrev pub near_mark : (ℕ → ℕ → List MarkedBlock) → ℕ → ℕ → ℕ
near_mark look end u = start_mark_at u (look (window_of_start u) (min (window_of_start u + week) end))

abbrev pub far_mark : (ℕ → ℕ → List MarkedBlock) → ℕ → ℕ → ℕ
far_mark look end u = end_mark_at u (look (window_of_end u) (min (window_of_end u + week) end))

-- a period with them
abbrev pub with_marks : (ℕ → ℕ → List MarkedBlock) → ℕ → Block → MarkedBlock
with_marks look end p = marked (edge p.start (near_mark look end p.start)) (edge p.end (far_mark look end p.end))

-- ---- the walk's marks are those that its windows have, for any windows whose blocks lie in them with gaps between

module _ (look : ℕ → ℕ → List MarkedBlock) (limit end : ℕ) (some : 0 < limit) (lies : (x y : ℕ) → x ≤ y → y ≤ end → Chain x (map forget (look x y)) × Ends y (map forget (look x y))) where
  abbrev told : Answer Block → Answer MarkedBlock
  told a = a >>= λ (p : Block). gives (with_marks look end p)

  abbrev plain_look : ℕ → ℕ → List Block
  plain_look x y = map forget (look x y)

  -- both marks of a period so far, and that the search limit does not cut it where a block ends
  record Kept (f e : Edge) : Type 0 where
    near : f.mark ≡ near_mark look end f.at
    far : e.mark ≡ far_mark look end e.at
    cut : f.at + limit < e.at → plain ≡ far_mark look end (f.at + limit)

  kept-told : (f e : Edge) → Kept f e → gives (capped_marked limit f e) ≡ told (gives (capped limit f.at e.at))
  kept-told f e k = ap gives (ap₂ marked (ap (edge f.at) k.near) (far-end))
    where
      far-end : not_behind (f.at + limit) e ≡ edge (min e.at (f.at + limit)) (far_mark look end (min e.at (f.at + limit)))
      far-end =
          by-test (ltb (f.at + limit) e.at)
          (λ q.
          let h = ltb-true (f.at + limit) e.at q in
          let p : f.at + limit ≡ min e.at (f.at + limit) = omega arith in
          rw q (ap₂ edge p (k.cut h ∙ ap (far_mark look end) p)))
          (λ q.
          let h = ltb-false (f.at + limit) e.at q in
          let p : e.at ≡ min e.at (f.at + limit) = omega arith in
          rw q (ap₂ edge p (k.far ∙ ap (far_mark look end) p)))

  -- what is known where a window begins at x, and where it ends at y
  abbrev Ready : ℕ → MarkedSoFar → Type 0
  Ready x none_yet = Unit {0}
  Ready x (going_on f e) = Kept f e × (e.at ≡ x) × (e.at < f.at + limit)
  Ready x (stopped f e) = ⊥
  Ready x far_off = ⊥

  abbrev Done : ℕ → MarkedSoFar → Type 0
  Done y none_yet = Unit {0}
  Done y (going_on f e) = Kept f e × (e.at ≤ y)
  Done y (stopped f e) = Kept f e
  Done y far_off = Unit {0}

  module _ (k x y : ℕ) (at-week : x ≡ k * week) (to : min (x + week) end ≡ y) (less : x < y) where
    module _ (b : MarkedBlock) (l : List MarkedBlock) (is : look x y ≡ b ∷ l) (c : Chain x (map forget (b ∷ l))) (n : b.end.at ≤ y) where
      first-near : b.start.mark ≡ near_mark look end b.start.at
      unfolding start_mark_at
      first-near =
          let p : window_of_start b.start.at ≡ x = omega (arith, c.0, c.1) in
          rw (p, to, is, eq-eqb b.start.at b.start.at refl)

      first-far : b.end.mark ≡ far_mark look end b.end.at
      unfolding end_mark_at
      first-far =
          let p : window_of_end b.end.at ≡ x = omega (arith, c.0, c.1) in
          rw (p, to, is, eq-eqb b.end.at b.end.at refl)

      first-cut : (u : ℕ) → x < u → u < b.end.at → plain ≡ far_mark look end u
      unfolding end_mark_at
      first-cut u h i =
          let p : window_of_end u ≡ x = omega arith in
          rw (p, to, is, ne_eqb b.end.at u (λ q. omega arith)) (sym (no-end-at u (suc b.end.at) l c.2 (omega arith)))

    -- the period ends with its first block of a window, or goes on behind the window
    more : (f e : Edge) (l : List MarkedBlock) → Chain (suc e.at) (map forget l) → Kept f e → e.at ≤ y → Done y (marked_in limit (going_on f e) l)
    unfolding marked_in
    more f e [] c k h = (k, h)
    more f e (b ∷ l) c k h = rw (ne_eqb b.start.at e.at (λ q. omega (arith, c.0))) k

    from-none : (l : List MarkedBlock) → look x y ≡ l → Chain x (map forget l) → Ends y (map forget l) → Done y (marked_in limit none_yet l)
    unfolding marked_in
    from-none [] is c n = tt
    from-none (b ∷ l) is c n =
        by-test (ltb limit b.start.at) (λ q. rw q tt)
        (λ q. rw q
        (more b.start b.end l c.2
        (record { near = first-near b l is c n.0; far = first-far b l is c n.0; cut = first-cut b l is c n.0 (b.start.at + limit) (omega (arith, c.0)) })
        n.0))

    from-going : (f e : Edge) (l : List MarkedBlock) → look x y ≡ l → Chain x (map forget l) → Ends y (map forget l) → Ready x (going_on f e) → Done y (marked_in limit (going_on f e) l)
    unfolding marked_in
    from-going f e [] is c n r = (r.0, omega (arith, r.1))
    from-going f e (b ∷ l) is c n r =
        by-test (eqb b.start.at e.at)
        (λ q. rw q
        (more f b.end l c.2
        (record { near = r.0.near; far = first-far b l is c n.0; cut = first-cut b l is c n.0 (f.at + limit) (omega (arith, r.1, r.2)) })
        n.0))
        (λ q. rw q r.0)

    window-done : (h : MarkedSoFar) → y ≤ end → Ready x h → Done y (marked_in limit h (look x y))
    window-done none_yet i r = let c = lies x y (omega arith) i in from-none (look x y) refl c.0 c.1
    window-done (going_on f e) i r = let c = lies x y (omega arith) i in from-going f e (look x y) refl c.0 c.1 r
    window-done (stopped f e) i r = absurd r
    window-done far_off i r = absurd r

  -- behind a window, with what the rest of the walk gives
  after : (y : ℕ) (rest : MarkedSoFar → Answer MarkedBlock) (plain_rest : PeriodSoFar → Answer Block) → ((h : MarkedSoFar) → Ready y h → rest h ≡ told (plain_rest (so_far h)))
      → (h : MarkedSoFar) → Done y h → marked_after limit y rest h ≡ told (period_after limit y plain_rest (so_far h))
  after y rest plain_rest ih none_yet d = by-test (ltb limit y) (λ q. rw q) (λ q. rw q (ih none_yet tt))
  after y rest plain_rest ih (going_on f e) d =
      by-test (ltb e.at y)
      (λ q. rw q (kept-told f e d.0))
      (λ q. by-test (leb limit (e.at - f.at))
      (λ p. rw (q, p) (kept-told f e d.0))
      (λ p. rw (q, p) (ih (going_on f e) (d.0, omega (arith, d.1, ltb-false e.at y q), omega (arith, leb-false limit (e.at - f.at) p)))))
  after y rest plain_rest ih (stopped f e) d = kept-told f e d
  after y rest plain_rest ih far_off d = refl

  at-end-told : (h : MarkedSoFar) (x : ℕ) → Ready x h → marked_from zero look limit end x h ≡ told (period_from zero plain_look limit end x (so_far h))
  unfolding marked_from period_from
  at-end-told none_yet x r = refl
  at-end-told (going_on f e) x r = kept-told f e r.0
  at-end-told (stopped f e) x r = absurd r
  at-end-told far_off x r = absurd r

  walk-told : (n k x : ℕ) (h : MarkedSoFar) → x ≡ min (k * week) end → n + k ≤ begun end → Ready x h → marked_from n look limit end x h ≡ told (period_from n plain_look limit end x (so_far h))
  unfolding marked_from
  walk-told zero k x h p q r = at-end-told h x r
  walk-told (suc n) k x h p q r =
      let y = min (x + week) end in
      let w : x ≡ k * week = omega arith in
      after y (marked_from n look limit end y) (period_from n plain_look limit end y) (λ g. walk-told n (suc k) y g (omega arith) (omega arith))
      (marked_in limit h (look x y)) (window-done k x y w refl (omega arith) h (omega arith) r) ∙
      ap (λ g. told (period_after limit y (period_from n plain_look limit end y) g)) (in-forgets limit h (look x y)) ∙
      ap told (sym (period-step n plain_look limit end x (so_far h)))

  -- the whole walk
  pub walk_begins : marked_from (begun end) look limit end 0 none_yet ≡ (period_from (begun end) (λ x y. map forget (look x y)) limit end 0 nothing >>= λ p. gives (with_marks look end p))
  walk_begins = walk-told (begun end) 0 0 none_yet (omega arith) (omega arith) tt
