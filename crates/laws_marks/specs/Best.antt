-- The marks of merged blocks: each end has the greatest mark of the ends that coincide with it.
use Rattle.std.specs.Prelude.{◌≡◌, refl, ◌⊎◌, List, [], ◌∷◌, map, ℕ, ◌≤◌, ◌<◌, max, leb, ltb, eqb}
use Rattle.std.proofs.Common.{sym, ◌∙◌, ap, ap₂, inl, inr, ⊎_elim, arith, ltb-true, ltb-false, leb-true, leb-false, le-ltb, eq-eqb, ne_eqb}
use Rattle.model.specs.Basic.{maximum}
use Rattle.model.specs.Marks.{MarkedBlock, plain, insert_marked, sorted_marked, merged_marked_from, merged_marked, union_marked}
use Rattle.laws_base.specs.Test.{by-test}
use Rattle.laws_base.specs.Every.{Every, every_map}
use Rattle.laws_blocks.specs.Members.{From, Sorted, NonEmpty, from-weaken, sorted-sorted, sorted-nonempty}
use Rattle.laws_marks.specs.Around.{starts_with, ends_with, best_start, best_end}
use Rattle.laws_marks.specs.Forget.{forget, join_marked, earlier-at, later-at, sorted-forgets}

-- ---- the ends at an instant

max_none : (x : ℕ) → x ≡ max x 0
max_none x = omega arith

none_max : (x : ℕ) → x ≡ max 0 x
none_max x = omega arith

max_assoc : (x y z : ℕ) → max (max x y) z ≡ max x (max y z)
max_assoc x y z = omega arith

starts-at : (u : ℕ) (b : MarkedBlock) → b.start.at ≡ u → starts_with u b ≡ b.start.mark
starts-at u b h = rw (eq-eqb b.start.at u h)

starts-not : (u : ℕ) (b : MarkedBlock) → (b.start.at ≡ u → ⊥) → starts_with u b ≡ plain
starts-not u b h = rw (ne_eqb b.start.at u h)

ends_at : (u : ℕ) (b : MarkedBlock) → b.end.at ≡ u → ends_with u b ≡ b.end.mark
ends_at u b h = rw (eq-eqb b.end.at u h)

ends-not : (u : ℕ) (b : MarkedBlock) → (b.end.at ≡ u → ⊥) → ends_with u b ≡ plain
ends-not u b h = rw (ne_eqb b.end.at u h)

-- no block starts before the first
none-starts : (u m : ℕ) (l : List MarkedBlock) → From m (map forget l) → u < m → best_start u l ≡ plain
unfolding best_start
none-starts u m [] f h = refl
none-starts u m (b ∷ l) f h = ap₂ max (starts-not u b (λ e. omega (arith, f.0))) (none-starts u m l f.1 h)

none-ends : (u m : ℕ) (l : List MarkedBlock) → From m (map forget l) → NonEmpty (map forget l) → u ≤ m → best_end u l ≡ plain
unfolding best_end
none-ends u m [] f n h = refl
none-ends u m (b ∷ l) f n h = ap₂ max (ends-not u b (λ e. omega (arith, f.0, n.0))) (none-ends u m l f.1 n.1 h)

-- ---- two blocks made one: at their start and behind the second's start, and from their end on, the marks are those of both

join-starts : (u : ℕ) (b c : MarkedBlock) → b.start.at ≤ c.start.at → (u ≡ b.start.at) ⊎ (c.start.at < u) → starts_with u (join_marked b c) ≡ max (starts_with u b) (starts_with u c)
join-starts u b c h w =
    by-test (ltb b.start.at c.start.at)
    (λ e.
    let k = ltb-true b.start.at c.start.at e in
    rw (e, starts-not u c (λ q. ⊎_elim (λ p. omega arith) (λ p. omega arith) w)) (max_none (starts_with u b)))
    (λ e.
    let k : c.start.at ≡ b.start.at = omega (arith, ltb-false b.start.at c.start.at e) in
    rw (e, le-ltb c.start.at b.start.at h, k) (by-test (eqb b.start.at u) (λ f. rw f) (λ f. rw f)))

join-ends : (u : ℕ) (b c : MarkedBlock) → max b.end.at c.end.at ≤ u → ends_with u (join_marked b c) ≡ max (ends_with u b) (ends_with u c)
join-ends u b c h =
    by-test (ltb c.end.at b.end.at)
    (λ e. let k = ltb-true c.end.at b.end.at e in rw (e, ends-not u c (λ q. omega arith)) (max_none (ends_with u b)))
    (λ e.
    let k = ltb-false c.end.at b.end.at e in
    by-test (ltb b.end.at c.end.at)
    (λ f. let o = ltb-true b.end.at c.end.at f in rw (e, f, ends-not u b (λ q. omega arith)) (none_max (ends_with u c)))
    (λ f.
    let o : c.end.at ≡ b.end.at = omega (arith, ltb-false b.end.at c.end.at f) in
    rw (e, f, o) (by-test (eqb b.end.at u) (λ g. rw g) (λ g. rw g))))

-- ---- merging

-- a block of those that b and the later ones l merge to: where it starts and ends, and its marks
record MergedOf (b : MarkedBlock) (l : List MarkedBlock) (d : MarkedBlock) : Type 0 where
  starts : (d.start.at ≡ b.start.at) ⊎ (b.end.at < d.start.at)
  ends : b.end.at ≤ d.end.at
  start-best : d.start.mark ≡ best_start d.start.at (b ∷ l)
  end-best : d.end.mark ≡ best_end d.end.at (b ∷ l)

alone : (b : MarkedBlock) (l : List MarkedBlock) → b.start.at < b.end.at → From b.end.at (map forget l) → NonEmpty (map forget l) → MergedOf b l b
unfolding best_start best_end
alone b l h f n = record {
  starts = inl refl;
  ends = omega arith;
  start-best = max_none b.start.mark ∙ sym (ap₂ max (starts-at b.start.at b refl) (none-starts b.start.at b.end.at l f h));
  end-best = max_none b.end.mark ∙ sym (ap₂ max (ends_at b.end.at b refl) (none-ends b.end.at b.end.at l f n (omega arith)));
}

-- c joins b
joins : (b c : MarkedBlock) (l : List MarkedBlock) → b.start.at ≤ c.start.at → c.start.at ≤ b.end.at → (d : MarkedBlock) → MergedOf (join_marked b c) l d → MergedOf b (c ∷ l) d
unfolding best_start best_end
joins b c l h k d m =
    let p = earlier-at b.start c.start h in
    let q = later-at b.end c.end in
    let e = m.ends in
    let u = d.start.at in
    let v = d.end.at in
    let place : (u ≡ b.start.at) ⊎ (max b.end.at c.end.at < u) = ⊎_elim (λ i. inl (i ∙ p)) (λ i. inr (omega arith)) m.starts in
    record {
      starts = ⊎_elim (λ i. inl i) (λ i. inr (omega arith)) place;
      ends = omega arith;
      start-best =
          m.start-best ∙ ap (λ x. max x (maximum (map (starts_with u) l))) (join-starts u b c h (⊎_elim (λ i. inl i) (λ i. inr (omega arith)) place)) ∙
          max_assoc (starts_with u b) (starts_with u c) (maximum (map (starts_with u) l));
      end-best =
          m.end-best ∙ ap (λ x. max x (maximum (map (ends_with v) l))) (join-ends v b c (omega arith)) ∙
          max_assoc (ends_with v b) (ends_with v c) (maximum (map (ends_with v) l));
    }

-- c is apart from b
behind : (b c : MarkedBlock) (l : List MarkedBlock) → b.start.at < b.end.at → b.end.at < c.start.at → c.start.at < c.end.at → (d : MarkedBlock) → MergedOf c l d → MergedOf b (c ∷ l) d
unfolding best_start best_end
behind b c l h k n d m =
    let u = d.start.at in
    let v = d.end.at in
    let e = m.ends in
    let place : b.end.at < u = ⊎_elim (λ i. omega arith) (λ i. omega arith) m.starts in
    record {
      starts = inr place;
      ends = omega arith;
      start-best = m.start-best ∙ none_max (best_start u (c ∷ l)) ∙ ap (λ x. max x (best_start u (c ∷ l))) (sym (starts-not u b (λ i. omega arith)));
      end-best = m.end-best ∙ none_max (best_end v (c ∷ l)) ∙ ap (λ x. max x (best_end v (c ∷ l))) (sym (ends-not v b (λ i. omega arith)));
    }

merge-best : (b : MarkedBlock) (l : List MarkedBlock) → b.start.at < b.end.at → From b.start.at (map forget l) → Sorted (map forget l) → NonEmpty (map forget l) → Every (MergedOf b l) (merged_marked_from b l)
unfolding merged_marked_from
merge-best b [] h f s n = (alone b [] h tt tt, tt)
merge-best b (c ∷ l) h f s n =
    by-test (leb c.start.at b.end.at)
    (λ e.
    let j = join_marked b c in
    let p = earlier-at b.start c.start f.0 in
    let q = later-at b.end c.end in
    rw e
    (every_map (MergedOf j l) (MergedOf b (c ∷ l)) (joins b c l f.0 (leb-true c.start.at b.end.at e)) (merged_marked_from j l)
    (merge-best j l (omega arith) (rw p f.1) s.1 n.1)))
    (λ e.
    let k = leb-false c.start.at b.end.at e in
    rw e (
      alone b (c ∷ l) h (omega arith, from-weaken b.end.at c.start.at (map forget l) (omega arith) s.0) n,
      every_map (MergedOf c l) (MergedOf b (c ∷ l)) (behind b c l h k n.0) (merged_marked_from c l) (merge-best c l n.0 s.0 s.1 n.1),
    ))

-- ---- the order does not matter to the greatest

insert-max : (f : MarkedBlock → ℕ) (b : MarkedBlock) (l : List MarkedBlock) → maximum (map f (insert_marked b l)) ≡ max (f b) (maximum (map f l))
unfolding insert_marked
insert-max f b [] = refl
insert-max f b (c ∷ l) =
    by-test (leb b.start.at c.start.at) (λ e. rw e)
    (λ e. rw e (ap (max (f c)) (insert-max f b l) ∙ swap (f c) (f b) (maximum (map f l))))
  where
    swap : (x y z : ℕ) → max x (max y z) ≡ max y (max x z)
    swap x y z = omega arith

sorted-max : (f : MarkedBlock → ℕ) (l : List MarkedBlock) → maximum (map f (sorted_marked l)) ≡ maximum (map f l)
unfolding sorted_marked
sorted-max f [] = refl
sorted-max f (b ∷ l) = insert-max f b (sorted_marked l) ∙ ap (max (f b)) (sorted-max f l)

-- ---- union

-- d's ends have the best marks of l
pub record BestOf (l : List MarkedBlock) (d : MarkedBlock) : Type 0 where
  pub of-start : d.start.mark ≡ best_start d.start.at l
  pub of_end : d.end.mark ≡ best_end d.end.at l

merged-best : (l : List MarkedBlock) → Sorted (map forget l) → NonEmpty (map forget l) → Every (BestOf l) (merged_marked l)
unfolding merged_marked
merged-best [] s n = tt
merged-best (b ∷ l) s n =
    every_map (MergedOf b l) (BestOf (b ∷ l)) (λ d m. record { of-start = m.start-best; of_end = m.end-best }) (merged_marked_from b l)
    (merge-best b l n.0 s.0 s.1 n.1)

pub union-best : (l : List MarkedBlock) → NonEmpty (map forget l) → Every (BestOf l) (union_marked l)
unfolding union_marked best_start best_end
union-best l n =
    every_map (BestOf (sorted_marked l)) (BestOf l)
    (λ d m. record { of-start = m.of-start ∙ sorted-max (starts_with d.start.at) l; of_end = m.of_end ∙ sorted-max (ends_with d.end.at) l })
    (union_marked l)
    (merged-best (sorted_marked l) (rw (sorted-forgets l) (sorted-sorted (map forget l))) (rw (sorted-forgets l) (sorted-nonempty (map forget l) n)))
