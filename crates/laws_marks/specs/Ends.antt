-- The mark of each end of a window's blocks, by what whole work and whole gaps show around it: `start_by` and `end_by`. The same marks are those
-- that `start_mark_at` and `end_mark_at` find at any instant of the window.
use Rattle.std.specs.Prelude.{◌≡◌, refl, ◌⊎◌, ℕ, suc, ◌-◌, ◌≤◌, ◌<◌, leb, ltb, eqb, if◌then◌else◌}
use Rattle.std.proofs.Common.{◌∙◌, arith}
use Rattle.std.proofs.Math.Path.{ap}
use Rattle.std.proofs.Math.Logic.{inl, inr, ⊎_elim}
use mathlib.Core.List.{List, [], ◌∷◌, map}
use borrow.Author.Tests.{ltb-true, leb-false, eqb-true, eqb-false}
use Rattle.model.specs.Working.{Schedule}
use Rattle.model.specs.Marks.{Edge, MarkedBlock, marked, plain, put_marked, cut_marked, subtract_marked, union_marked, not_before, not_behind, windowed, whole_of_all, marked_working, start_mark_at, end_mark_at}
use Rattle.laws_base.specs.Test.{by-test}
use Rattle.laws_base.specs.Every.{Every, every_map, every-both}
use Rattle.laws_blocks.specs.Members.{InBlocks, NonEmpty, Chain, chain-from, union-in, union-normal}
use Rattle.laws_demand3.specs.Windows.{off_rules}
use Rattle.laws_marks.specs.Around.{covered_at, covered_before, Around, around_of, start_by, end_by}
use Rattle.laws_marks.specs.Forget.{forget, union-forgets, not-before-at, not-behind-at}
use Rattle.laws_marks.specs.Covered.{at-yes, at-no, before-yes, before-no, before-not, at_in, at_out, before-in, before-out}
use Rattle.laws_marks.specs.Best.{BestOf, union-best}
use Rattle.laws_marks.specs.Instants.{whole_left, whole-nonempty, whole-normal, whole_in, window-in}

-- ---- a block beside the others of a list

-- b is not empty, its instants are in the list, and those on both sides of it are not
record Beside (m : ℕ) (l : List MarkedBlock) (b : MarkedBlock) : Type 0 where
  from : m ≤ b.start.at
  full : b.start.at < b.end.at
  inside : (t : ℕ) → b.start.at ≤ t → t < b.end.at → InBlocks t (map forget l)
  ahead : (t : ℕ) → b.start.at ≡ suc t → InBlocks t (map forget l) → ⊥
  behind : InBlocks b.end.at (map forget l) → ⊥

chain-beside : (m : ℕ) (l : List MarkedBlock) → Chain m (map forget l) → Every (Beside m l) l
chain-beside m [] c = tt
chain-beside m (b ∷ l) c = (
  record {
    from = c.0;
    full = c.1;
    inside = λ t p q. inl (p, q);
    ahead = λ t e. ⊎_elim (λ i. omega arith) (λ i. omega (arith, chain-from t (suc b.end.at) (map forget l) c.2 i, c.1));
    behind = ⊎_elim (λ i. omega arith) (λ i. omega (arith, chain-from b.end.at (suc b.end.at) (map forget l) c.2 i));
  },
  every_map (Beside (suc b.end.at) l) (Beside m (b ∷ l)) later l (chain-beside (suc b.end.at) l c.2),
)
  where
    later : (d : MarkedBlock) → Beside (suc b.end.at) l d → Beside m (b ∷ l) d
    later d k =
        let f = k.from in
        let g = k.full in
        let h = c.0 in
        let i = c.1 in
        record {
          from = omega arith;
          full = g;
          inside = λ t p q. inr (k.inside t p q);
          ahead = λ t e. ⊎_elim (λ j. omega arith) (k.ahead t e);
          behind = ⊎_elim (λ j. omega arith) k.behind;
        }

-- the same, with the instants of another list that holds the same
beside_same : (l k : List MarkedBlock) → ((t : ℕ) → InBlocks t (map forget l) → InBlocks t (map forget k)) → ((t : ℕ) → InBlocks t (map forget k) → InBlocks t (map forget l)) → (b : MarkedBlock) → Beside 0 l b → Beside 0 k b
beside_same l k f g b d = record { from = d.from; full = d.full; inside = λ t p q. f t (d.inside t p q); ahead = λ t e i. d.ahead t e (g t i); behind = λ i. d.behind (g b.end.at i) }

union-beside : (l : List MarkedBlock) → NonEmpty (map forget l) → Every (Beside 0 l) (union_marked l)
union-beside l n =
    every_map (Beside 0 (union_marked l)) (Beside 0 l)
    (beside_same (union_marked l) l (λ t i. (union-in t (map forget l)).0 (rw (union-forgets l) at i)) (λ t i. rw (union-forgets l) ((union-in t (map forget l)).1 i)))
    (union_marked l)
    (chain-beside 0 (union_marked l) (rw (union-forgets l) (union-normal (map forget l) n)))

-- ---- lists of which each element has a property

every-and : {A : Type 0} (P Q : A → Type 0) (l : List A) → Every P l → Every Q l → Every (λ a. P a × Q a) l
every-and P Q [] p q = tt
every-and P Q (a ∷ l) p q = ((p.0, q.0), every-and P Q l p.1 q.1)

every-put : (P : MarkedBlock → Type 0) (s e : Edge) (l : List MarkedBlock) → (s.at < e.at → P (marked s e)) → Every P l → Every P (put_marked s e l)
every-put P s e l h k = by-test (ltb s.at e.at) (λ q. rw q (h (ltb-true s.at e.at q), k)) (λ q. rw q k)

-- ---- the pieces that cutting leaves: an end is the block's own, or a gap's edge inside it

module _ (S E : Edge → Type 0) where
  -- a gap whose edges inside [s, e) have the properties
  abbrev CutsAt : Edge → Edge → MarkedBlock → Type 0
  CutsAt s e g = (s.at < g.end.at → g.end.at < e.at → S g.end) × (s.at < g.start.at → g.start.at < e.at → E g.start)

  abbrev HasEnds : MarkedBlock → Type 0
  HasEnds p = S p.start × E p.end

  cut-ends : (s e : Edge) (off : List MarkedBlock) → (s.at < e.at → S s) → (s.at < e.at → E e) → Every (CutsAt s e) off → Every HasEnds (cut_marked s e off)
  unfolding cut_marked
  cut-ends s e [] a b n = every-put HasEnds s e [] (λ h. (a h, b h)) tt
  cut-ends s e (g ∷ off) a b n =
      by-test (leb g.end.at s.at)
      (λ p. rw p (cut-ends s e off a b n.1))
      (λ p. by-test (leb e.at g.start.at)
      (λ q. rw (p, q) (every-put HasEnds s e [] (λ h. (a h, b h)) tt))
      (λ q.
      let x : s.at < g.end.at = leb-false g.end.at s.at p in
      let y : g.start.at < e.at = leb-false e.at g.start.at q in
      rw (p, q)
      (every-put HasEnds s g.start (cut_marked g.end e off) (λ h. (a (omega arith), n.0.1 h y))
      (cut-ends g.end e off (n.0.0 x) (λ h. b (omega arith))
      (every_map (CutsAt s e) (CutsAt g.end e) (λ c k. (λ i. k.0 (omega arith), λ i. k.1 (omega arith))) off n.1)))))

  subtract-ends : (l off : List MarkedBlock) → Every (λ b. HasEnds b × Every (CutsAt b.start b.end) off) l → Every HasEnds (subtract_marked l off)
  unfolding subtract_marked
  subtract-ends [] off n = tt
  subtract-ends (b ∷ l) off n =
      every-both HasEnds (cut_marked b.start b.end off) (subtract_marked l off)
      (cut-ends b.start b.end off (λ h. n.0.0.0) (λ h. n.0.0.1) n.0.1)
      (subtract-ends l off n.1)

-- ---- whole work and whole gaps

-- both ends of d have the mark that whole work and whole gaps show there
pub record MarkedBy (work off : List MarkedBlock) (d : MarkedBlock) : Type 0 where
  pub start-by : d.start.mark ≡ start_by (around_of d.start.at work) (around_of d.start.at off)
  pub end_by_lem : d.end.mark ≡ end_by (around_of d.end.at work) (around_of d.end.at off)

module _ (work off : List MarkedBlock) (nw : NonEmpty (map forget work)) (no : NonEmpty (map forget off)) where
  abbrev work_at : ℕ → Around
  work_at u = around_of u work

  abbrev off_at : ℕ → Around
  off_at u = around_of u off

  -- the mark of a start where work begins, and of an end where it stops
  abbrev begins_by : Edge → Type 0
  begins_by x = x.mark ≡ (if (work_at x.at).before then (if (off_at x.at).before then (off_at x.at).ends else plain) else (work_at x.at).starts)

  abbrev stops_by : Edge → Type 0
  stops_by x = x.mark ≡ (if (work_at x.at).here then (if (off_at x.at).here then (off_at x.at).starts else plain) else (work_at x.at).ends)

  -- a merged block of work or of gaps
  abbrev OfWork : MarkedBlock → Type 0
  OfWork b = BestOf work b × Beside 0 work b

  abbrev OfOff : MarkedBlock → Type 0
  OfOff g = BestOf off g × Beside 0 off g

  own-ends : (b : MarkedBlock) → OfWork b → begins_by b.start × stops_by b.end
  own-ends b k = (
    rw (before-no b.start.at work k.1.ahead) k.0.of-start,
    rw (at-no b.end.at work k.1.behind) k.0.of_end,
  )

  gap_ends : (b g : MarkedBlock) → OfWork b → OfOff g → CutsAt begins_by stops_by b.start b.end g
  gap_ends b g k h =
      let f = h.1.full in (
        λ x y.
            let t = g.end.at - 1 in
            let e : g.end.at ≡ suc t = omega arith in
            rw (before-yes g.end.at t work e (k.1.inside t (omega arith) (omega arith)), before-yes g.end.at t off e (h.1.inside t (omega arith) (omega arith)))
            h.0.of_end,
        λ x y.
            rw (at-yes g.start.at work (k.1.inside g.start.at (omega arith) y), at-yes g.start.at off (h.1.inside g.start.at (omega arith) f))
            h.0.of-start,
      )

  left-ends : Every (HasEnds begins_by stops_by) (whole_left work off)
  left-ends =
      subtract-ends begins_by stops_by (union_marked work) (union_marked off)
      (every_map OfWork (λ b. HasEnds begins_by stops_by b × Every (CutsAt begins_by stops_by b.start b.end) (union_marked off))
      (λ b k. (own-ends b k, every_map OfOff (CutsAt begins_by stops_by b.start b.end) (λ g h. gap_ends b g k h) (union_marked off) gaps))
      (union_marked work)
      (every-and (BestOf work) (Beside 0 work) (union_marked work) (union-best work nw) (union-beside work nw)))
    where
      gaps : Every OfOff (union_marked off)
      gaps = every-and (BestOf off) (Beside 0 off) (union_marked off) (union-best off no) (union-beside off no)

  -- a piece: its marks, and that it is work and not off
  record Piece (p : MarkedBlock) : Type 0 where
    begins : begins_by p.start
    stops : stops_by p.end
    worked : (t : ℕ) → p.start.at ≤ t → t < p.end.at → InBlocks t (map forget work) × (InBlocks t (map forget off) → ⊥)

  pieces : Every Piece (whole_left work off)
  pieces =
      let left = whole_left work off in
      every_map (λ p. HasEnds begins_by stops_by p × Beside 0 left p) Piece
      (λ p k. record { begins = k.0.0; stops = k.0.1; worked = λ t a b. (whole_in work off nw no t).0 (k.1.inside t a b) })
      left
      (every-and (HasEnds begins_by stops_by) (Beside 0 left) left left-ends (chain-beside 0 left (whole-normal work off nw no)))

  -- ---- the window: an end that it moved is plain, since work goes on behind it

  start-in : (lo : ℕ) (p : MarkedBlock) → Piece p → lo < p.end.at → p.start.at < p.end.at → (not_before lo p.start).mark ≡ start_by (work_at (not_before lo p.start).at) (off_at (not_before lo p.start).at)
  start-in lo p k h f =
      by-test (ltb p.start.at lo)
      (λ e.
      let x = ltb-true p.start.at lo e in
      let t = lo - 1 in
      let q : lo ≡ suc t = omega arith in
      let here = k.worked lo (omega arith) h in
      let past = k.worked t (omega arith) (omega arith) in
      rw (e, at-yes lo work here.0, at-no lo off here.1, before-yes lo t work q past.0, before-not lo t off q past.1))
      (λ e.
      let here = k.worked p.start.at (omega arith) f in
      rw (e, at-yes p.start.at work here.0, at-no p.start.at off here.1) k.begins)

  end-in : (hi : ℕ) (p : MarkedBlock) → Piece p → p.start.at < hi → p.start.at < p.end.at → (not_behind hi p.end).mark ≡ end_by (work_at (not_behind hi p.end).at) (off_at (not_behind hi p.end).at)
  end-in hi p k h f =
      by-test (ltb hi p.end.at)
      (λ e.
      let x = ltb-true hi p.end.at e in
      let t = hi - 1 in
      let q : hi ≡ suc t = omega arith in
      let here = k.worked hi (omega arith) x in
      let past = k.worked t (omega arith) (omega arith) in
      rw (e, before-yes hi t work q past.0, before-not hi t off q past.1, at-yes hi work here.0, at-no hi off here.1))
      (λ e.
      let t = p.end.at - 1 in
      let q : p.end.at ≡ suc t = omega arith in
      let past = k.worked t (omega arith) (omega arith) in
      rw (e, before-yes p.end.at t work q past.0, before-not p.end.at t off q past.1) k.stops)

  windowed-by : (lo hi : ℕ) (l : List MarkedBlock) → Every Piece l → Every (MarkedBy work off) (windowed lo hi l)
  unfolding windowed
  windowed-by lo hi [] n = tt
  windowed-by lo hi (p ∷ l) n =
      let a = not-before-at lo p.start in
      let b = not-behind-at hi p.end in
      every-put (MarkedBy work off) (not_before lo p.start) (not_behind hi p.end) (windowed lo hi l)
      (λ h. record { start-by = start-in lo p n.0 (omega arith) (omega arith); end_by_lem = end-in hi p n.0 (omega arith) (omega arith) })
      (windowed-by lo hi l n.1)

  -- ---- looking an end up

  start-look : (u : ℕ) (l : List MarkedBlock) → Every (MarkedBy work off) l → (start_mark_at u l ≡ start_by (work_at u) (off_at u)) ⊎ ((start_mark_at u l ≡ plain) × Every (λ (b : MarkedBlock). b.start.at ≡ u → ⊥) l)
  unfolding start_mark_at
  start-look u [] n = inr (refl, tt)
  start-look u (b ∷ l) n =
      by-test (eqb b.start.at u)
      (λ e. inl (rw e (n.0.start-by ∙ ap (λ v. start_by (work_at v) (off_at v)) (eqb-true b.start.at u e))))
      (λ e. ⊎_elim (λ k. inl (rw e k)) (λ k. inr (rw e k.0, (eqb-false b.start.at u e, k.1))) (start-look u l n.1))

  end-look : (u : ℕ) (l : List MarkedBlock) → Every (MarkedBy work off) l → (end_mark_at u l ≡ end_by (work_at u) (off_at u)) ⊎ ((end_mark_at u l ≡ plain) × Every (λ (b : MarkedBlock). b.end.at ≡ u → ⊥) l)
  unfolding end_mark_at
  end-look u [] n = inr (refl, tt)
  end-look u (b ∷ l) n =
      by-test (eqb b.end.at u)
      (λ e. inl (rw e (n.0.end_by_lem ∙ ap (λ v. end_by (work_at v) (off_at v)) (eqb-true b.end.at u e))))
      (λ e. ⊎_elim (λ k. inl (rw e k)) (λ k. inr (rw e k.0, (eqb-false b.end.at u e, k.1))) (end-look u l n.1))

  -- an instant of a block that does not start there: the one before is in it too. The mirror: one of a block that does not end behind it
  goes_back : (u : ℕ) (l : List MarkedBlock) → Every (λ (b : MarkedBlock). b.start.at ≡ u → ⊥) l → InBlocks u (map forget l) → (t : ℕ) × (u ≡ suc t) × InBlocks t (map forget l)
  goes_back u [] n i = absurd i
  goes_back u (b ∷ l) n i =
      ⊎_elim (λ k. let x = n.0 in (u - 1, omega arith, inl (omega arith, omega arith))) (λ k. let r = goes_back u l n.1 k in (r.0, r.1, inr r.2)) i

  goes_on : (u t : ℕ) (l : List MarkedBlock) → u ≡ suc t → Every (λ (b : MarkedBlock). b.end.at ≡ u → ⊥) l → InBlocks t (map forget l) → InBlocks u (map forget l)
  goes_on u t [] q n i = i
  goes_on u t (b ∷ l) q n i = ⊎_elim (λ k. inl (let x = n.0 in (omega arith, omega arith))) (λ k. inr (goes_on u t l q n.1 k)) i

  module _ (lo hi : ℕ) where
    abbrev cut_left : List MarkedBlock
    cut_left = windowed lo hi (whole_left work off)

    window-by : Every (MarkedBy work off) cut_left
    window-by = windowed-by lo hi (whole_left work off) pieces

    no_start : (u : ℕ) → lo ≤ u → u < hi → Every (λ (b : MarkedBlock). b.start.at ≡ u → ⊥) cut_left → plain ≡ start_by (work_at u) (off_at u)
    no_start u a b n =
        by-test (covered_at u work)
        (λ e. by-test (covered_at u off)
        (λ f. rw (e, f))
        (λ f.
        let r = goes_back u cut_left n ((window-in work off nw no lo hi u).1 ((a, b), (at_in u work e, at_out u off f))) in
        let q = ((window-in work off nw no lo hi r.0).0 r.2).1 in
        rw (e, f, before-yes u r.0 work r.1 q.0, before-not u r.0 off r.1 q.1)))
        (λ e. rw e)

    no_end : (u : ℕ) → lo < u → u ≤ hi → Every (λ (b : MarkedBlock). b.end.at ≡ u → ⊥) cut_left → plain ≡ end_by (work_at u) (off_at u)
    no_end u a b n =
        let t = u - 1 in
        let p : u ≡ suc t = omega arith in
        by-test (covered_before u work)
        (λ e. by-test (covered_before u off)
        (λ f. rw (e, f))
        (λ f.
        let r = goes_on u t cut_left p n ((window-in work off nw no lo hi t).1 ((omega arith, omega arith), (before-in u t work p e, before-out u t off p f))) in
        let q = ((window-in work off nw no lo hi u).0 r).1 in
        rw (e, f, at-yes u work q.0, at-no u off q.1)))
        (λ e. rw e)

    start-found : (u : ℕ) → lo ≤ u → u < hi → start_mark_at u cut_left ≡ start_by (work_at u) (off_at u)
    start-found u a b = ⊎_elim (λ k. k) (λ k. k.0 ∙ no_start u a b k.1) (start-look u cut_left window-by)

    end-found : (u : ℕ) → lo < u → u ≤ hi → end_mark_at u cut_left ≡ end_by (work_at u) (off_at u)
    end-found u a b = ⊎_elim (λ k. k) (λ k. k.0 ∙ no_end u a b k.1) (end-look u cut_left window-by)

-- ---- the window of a schedule

-- both ends of each block
pub working-marks : (s : Schedule) (lo hi : ℕ) → Every (MarkedBy (whole_of_all lo hi s.work) (whole_of_all lo hi (off_rules s))) (marked_working s lo hi)
unfolding marked_working
working-marks s lo hi = window-by (whole_of_all lo hi s.work) (whole_of_all lo hi (off_rules s)) (whole-nonempty lo hi s.work) (whole-nonempty lo hi (off_rules s)) lo hi

-- the mark of a start at any instant of the window, and of an end
pub start-mark : (s : Schedule) (lo hi u : ℕ) → lo ≤ u → u < hi → start_mark_at u (marked_working s lo hi) ≡ start_by (around_of u (whole_of_all lo hi s.work)) (around_of u (whole_of_all lo hi (off_rules s)))
unfolding marked_working
start-mark s lo hi = start-found (whole_of_all lo hi s.work) (whole_of_all lo hi (off_rules s)) (whole-nonempty lo hi s.work) (whole-nonempty lo hi (off_rules s)) lo hi

pub end_mark_lem : (s : Schedule) (lo hi u : ℕ) → lo < u → u ≤ hi → end_mark_at u (marked_working s lo hi) ≡ end_by (around_of u (whole_of_all lo hi s.work)) (around_of u (whole_of_all lo hi (off_rules s)))
unfolding marked_working
end_mark_lem s lo hi = end-found (whole_of_all lo hi s.work) (whole_of_all lo hi (off_rules s)) (whole-nonempty lo hi s.work) (whole-nonempty lo hi (off_rules s)) lo hi
