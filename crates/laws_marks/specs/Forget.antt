-- Marked blocks without their marks: merging, subtracting and cutting them to a window are those of plain blocks.
use Rattle.std.specs.Prelude.{◌≡◌, refl, List, [], ◌∷◌, ◌++◌, map, ℕ, ◌≤◌, min, max, leb, ltb}
use Rattle.std.proofs.Common.{◌∙◌, ap, ap₂, arith, ltb-true, ltb-false, le-ltb}
use Rattle.model.specs.Basic.{joined}
use Rattle.model.specs.Blocks.{Block, block, put, clipped, insert, sorted, merged_from, merged, union, cut, subtract}
use Rattle.model.specs.Marks.{Edge, MarkedBlock, marked, put_marked, earlier_start, later_end, insert_marked, sorted_marked, merged_marked_from, merged_marked, union_marked, cut_marked, subtract_marked, not_before, not_behind, windowed}
use Rattle.laws_base.specs.Test.{by-test}
use Rattle.laws_blocks.specs.Members.{From, Sorted, sorted-sorted}

-- a block without its marks
abbrev pub forget : MarkedBlock → Block
forget b = block b.start.at b.end.at

put-forgets : (s e : Edge) (l : List MarkedBlock) → map forget (put_marked s e l) ≡ put s.at e.at (map forget l)
put-forgets s e l = by-test (ltb s.at e.at) (λ q. rw q) (λ q. rw q)

-- ---- merging

insert-forgets : (b : MarkedBlock) (l : List MarkedBlock) → map forget (insert_marked b l) ≡ insert (forget b) (map forget l)
unfolding insert_marked insert
insert-forgets b [] = refl
insert-forgets b (c ∷ l) = by-test (leb b.start.at c.start.at) (λ e. rw e) (λ e. rw e (ap (λ k. forget c ∷ k) (insert-forgets b l)))

pub sorted-forgets : (l : List MarkedBlock) → map forget (sorted_marked l) ≡ sorted (map forget l)
unfolding sorted_marked sorted
sorted-forgets [] = refl
sorted-forgets (b ∷ l) = insert-forgets b (sorted_marked l) ∙ ap (insert (forget b)) (sorted-forgets l)

-- two blocks made one
abbrev pub join_marked : MarkedBlock → MarkedBlock → MarkedBlock
join_marked b c = marked (earlier_start b.start c.start) (later_end b.end c.end)

-- where the surviving ends lie
pub earlier-at : (a b : Edge) → a.at ≤ b.at → (earlier_start a b).at ≡ a.at
earlier-at a b h = by-test (ltb a.at b.at) (λ e. rw e) (λ e. rw (e, le-ltb b.at a.at h))

pub later-at : (a b : Edge) → (later_end a b).at ≡ max a.at b.at
later-at a b =
    by-test (ltb b.at a.at)
    (λ e. let h = ltb-true b.at a.at e in rw e (omega arith))
    (λ e. let h = ltb-false b.at a.at e in
    by-test (ltb a.at b.at) (λ f. let k = ltb-true a.at b.at f in rw (e, f) (omega arith)) (λ f. let k = ltb-false a.at b.at f in rw (e, f) (omega arith)))

join-forgets : (b c : MarkedBlock) → b.start.at ≤ c.start.at → forget (join_marked b c) ≡ block b.start.at (max b.end.at c.end.at)
join-forgets b c h = ap₂ block (earlier-at b.start c.start h) (later-at b.end c.end)

-- of sorted blocks
merge-forgets : (b : MarkedBlock) (l : List MarkedBlock) → From b.start.at (map forget l) → Sorted (map forget l) → map forget (merged_marked_from b l) ≡ merged_from (forget b) (map forget l)
unfolding merged_marked_from merged_from
merge-forgets b [] f s = refl
merge-forgets b (c ∷ l) f s =
    by-test (leb c.start.at b.end.at)
    (λ e. rw e
    (merge-forgets (join_marked b c) l (rw (earlier-at b.start c.start f.0) f.1) s.1 ∙ ap (λ d. merged_from d (map forget l)) (join-forgets b c f.0)))
    (λ e. rw e (ap (λ k. forget b ∷ k) (merge-forgets c l s.0 s.1)))

merged-forgets : (l : List MarkedBlock) → Sorted (map forget l) → map forget (merged_marked l) ≡ merged (map forget l)
unfolding merged_marked merged
merged-forgets [] s = refl
merged-forgets (b ∷ l) s = merge-forgets b l s.0 s.1

pub union-forgets : (l : List MarkedBlock) → map forget (union_marked l) ≡ union (map forget l)
unfolding union_marked union
union-forgets l = merged-forgets (sorted_marked l) (rw (sorted-forgets l) (sorted-sorted (map forget l))) ∙ ap merged (sorted-forgets l)

-- ---- subtracting

pub append-forgets : (l k : List MarkedBlock) → map forget (l ++ k) ≡ map forget l ++ map forget k
append-forgets [] k = refl
append-forgets (b ∷ l) k = ap (λ m. forget b ∷ m) (append-forgets l k)

cut-forgets : (s e : Edge) (off : List MarkedBlock) → map forget (cut_marked s e off) ≡ cut s.at e.at (map forget off)
unfolding cut_marked cut
cut-forgets s e [] = put-forgets s e []
cut-forgets s e (g ∷ off) =
    by-test (leb g.end.at s.at)
    (λ p. rw p (cut-forgets s e off))
    (λ p. by-test (leb e.at g.start.at)
    (λ q. rw (p, q) (put-forgets s e []))
    (λ q. rw (p, q) (put-forgets s g.start (cut_marked g.end e off) ∙ ap (put s.at g.start.at) (cut-forgets g.end e off))))

pub subtract-forgets : (l off : List MarkedBlock) → map forget (subtract_marked l off) ≡ subtract (map forget l) (map forget off)
unfolding subtract_marked subtract
subtract-forgets [] off = refl
subtract-forgets (b ∷ l) off = append-forgets (cut_marked b.start b.end off) (subtract_marked l off) ∙ ap₂ ◌++◌ (cut-forgets b.start b.end off) (subtract-forgets l off)

-- ---- the window

pub not-before-at : (lo : ℕ) (s : Edge) → (not_before lo s).at ≡ max s.at lo
not-before-at lo s =
    by-test (ltb s.at lo) (λ e. let h = ltb-true s.at lo e in rw e (omega arith)) (λ e. let h = ltb-false s.at lo e in rw e (omega arith))

pub not-behind-at : (hi : ℕ) (e : Edge) → (not_behind hi e).at ≡ min e.at hi
not-behind-at hi e =
    by-test (ltb hi e.at) (λ q. let h = ltb-true hi e.at q in rw q (omega arith)) (λ q. let h = ltb-false hi e.at q in rw q (omega arith))

put-append : (s e : ℕ) (l : List Block) → put s e l ≡ put s e [] ++ l
put-append s e l = by-test (ltb s e) (λ q. rw q) (λ q. rw q)

-- plain blocks cut to a window
abbrev pub clips : ℕ → ℕ → List Block → List Block
clips lo hi l = joined (map (λ (b : Block). clipped lo hi b.start b.end) l)

pub windowed-forgets : (lo hi : ℕ) (l : List MarkedBlock) → map forget (windowed lo hi l) ≡ clips lo hi (map forget l)
unfolding windowed joined clipped
windowed-forgets lo hi [] = refl
windowed-forgets lo hi (b ∷ l) =
    put-forgets (not_before lo b.start) (not_behind hi b.end) (windowed lo hi l) ∙
    rw (not-before-at lo b.start, not-behind-at hi b.end, windowed-forgets lo hi l) (put-append (max b.start.at lo) (min b.end.at hi) _)
