-- Which instants marked lists hold, and that a window's blocks without their marks are its working time.
use Rattle.std.specs.Prelude.{◌≡◌, refl, ◌↔◌, List, [], ◌∷◌, ◌++◌, map, ℕ, suc, ◌≤◌, ◌<◌, min, max, ltb}
use Rattle.std.proofs.Common.{sym, ◌∙◌, ap, ap₂, inl, inr, ⊎_elim, append-nil, append_assoc, arith, ltb-true, ltb-false, le-ltb}
use Rattle.model.specs.Basic.{filter, joined}
use Rattle.model.specs.Blocks.{Block, clipped, union, subtract}
use Rattle.model.specs.Working.{Rule, Schedule, local_dates, start_of, end_of, blocks_of, blocks_of_all, working}
use Rattle.model.specs.Marks.{MarkedBlock, union_marked, subtract_marked, whole_on, whole_of, whole_of_all, windowed, marked_working}
use Rattle.laws_base.specs.Test.{by-test}
use Rattle.laws_blocks.specs.Members.{InBlocks, NonEmpty, Normal, Chain, append-in, append-nonempty, clipped-in, chain-weaken, union-in, union-normal, subtract-in, subtract-normal, normal-unique}
use Rattle.laws_demand3.specs.Windows.{off_rules, all-nonempty}
use Rattle.laws_marks.specs.Forget.{forget, clips, append-forgets, union-forgets, subtract-forgets, windowed-forgets}

-- ---- whole blocks are not empty

on-nonempty : (r : Rule) (d : ℕ) → NonEmpty (map forget (whole_on r d))
unfolding whole_on
on-nonempty r d = by-test (ltb (start_of r d) (end_of r d)) (λ q. rw q (ltb-true (start_of r d) (end_of r d) q, tt)) (λ q. rw q tt)

joined-nonempty : {A : Type 0} (f : A → List MarkedBlock) → ((a : A) → NonEmpty (map forget (f a))) → (l : List A) → NonEmpty (map forget (joined (map f l)))
unfolding joined
joined-nonempty f h [] = tt
joined-nonempty f h (a ∷ l) = rw (append-forgets (f a) (joined (map f l))) (append-nonempty (map forget (f a)) (map forget (joined (map f l))) (h a) (joined-nonempty f h l))

rule-nonempty : (lo hi : ℕ) (r : Rule) → NonEmpty (map forget (whole_of lo hi r))
unfolding whole_of
rule-nonempty lo hi r = joined-nonempty (whole_on r) (on-nonempty r) (filter r.on (local_dates r.zone lo hi))

pub whole-nonempty : (lo hi : ℕ) (l : List Rule) → NonEmpty (map forget (whole_of_all lo hi l))
unfolding whole_of_all
whole-nonempty lo hi l = joined-nonempty (whole_of lo hi) (rule-nonempty lo hi) l

-- ---- blocks cut to a window

clips-in : (t lo hi : ℕ) (l : List Block) → InBlocks t (clips lo hi l) ↔ (((lo ≤ t) × (t < hi)) × InBlocks t l)
unfolding joined
clips-in t lo hi [] = (λ m. absurd m, λ m. m.1)
clips-in t lo hi (b ∷ l) =
    let ih = clips-in t lo hi l in
    let c = clipped-in t lo hi b.start b.end in
    let a = append-in t (clipped lo hi b.start b.end) (clips lo hi l) in (
      λ m. ⊎_elim (λ h. ((c.0 h).0, inl (c.0 h).1)) (λ h. ((ih.0 h).0, inr (ih.0 h).1)) (a.0 m),
      λ m. a.1 (⊎_elim (λ h. inl (c.1 (m.0, h))) (λ h. inr (ih.1 (m.0, h))) m.1),
    )

clips-chain : (m lo hi : ℕ) (l : List Block) → Chain m l → Chain m (clips lo hi l)
unfolding joined clipped
clips-chain m lo hi [] c = tt
clips-chain m lo hi (b ∷ l) c =
    by-test (ltb (max b.start lo) (min b.end hi))
    (λ q. rw q (omega (arith, c.0), ltb-true (max b.start lo) (min b.end hi) q, chain-weaken (suc (min b.end hi)) (suc b.end) (clips lo hi l) (omega arith) (clips-chain (suc b.end) lo hi l c.2)))
    (λ q. rw q (chain-weaken m (suc b.end) (clips lo hi l) (omega (arith, c.0, c.1)) (clips-chain (suc b.end) lo hi l c.2)))

-- ---- the blocks of a window, from whole work and whole gaps

-- work less the gaps, both merged
abbrev pub whole_left : List MarkedBlock → List MarkedBlock → List MarkedBlock
whole_left work off = subtract_marked (union_marked work) (union_marked off)

module _ (work off : List MarkedBlock) (p : NonEmpty (map forget work)) (q : NonEmpty (map forget off)) where
  abbrev left : List MarkedBlock
  left = whole_left work off

  left-forgets : map forget left ≡ subtract (union (map forget work)) (union (map forget off))
  left-forgets = subtract-forgets (union_marked work) (union_marked off) ∙ ap₂ subtract (union-forgets work) (union-forgets off)

  pub whole-normal : Normal (map forget left)
  whole-normal = rw left-forgets (subtract-normal (union (map forget work)) (union (map forget off)) (union-normal (map forget work) p) (union-normal (map forget off) q))

  pub whole_in : (t : ℕ) → InBlocks t (map forget left) ↔ (InBlocks t (map forget work) × (InBlocks t (map forget off) → ⊥))
  whole_in t =
      let s = subtract-in t (union (map forget work)) (union (map forget off)) (union-normal (map forget off) q) in
      let a = union-in t (map forget work) in
      let b = union-in t (map forget off) in
      rw left-forgets (λ m. let k = s.0 m in (a.0 k.0, λ i. k.1 (b.1 i)), λ m. s.1 (a.1 m.0, λ i. m.1 (b.0 i)))

  pub window-in : (lo hi t : ℕ) → InBlocks t (map forget (windowed lo hi left)) ↔ (((lo ≤ t) × (t < hi)) × (InBlocks t (map forget work) × (InBlocks t (map forget off) → ⊥)))
  window-in lo hi t =
      let c = clips-in t lo hi (map forget left) in
      let w = whole_in t in
      rw (windowed-forgets lo hi left) (λ m. ((c.0 m).0, w.0 (c.0 m).1), λ m. c.1 (m.0, w.1 m.1))

  pub window-normal : (lo hi : ℕ) → Normal (map forget (windowed lo hi left))
  window-normal lo hi = rw (windowed-forgets lo hi left) (clips-chain 0 lo hi (map forget left) whole-normal)

-- ---- the marked blocks of a window hold its working time

clips-append : (lo hi : ℕ) (l k : List Block) → clips lo hi (l ++ k) ≡ clips lo hi l ++ clips lo hi k
unfolding joined
clips-append lo hi [] k = refl
clips-append lo hi (b ∷ l) k = ap (λ m. clipped lo hi b.start b.end ++ m) (clips-append lo hi l k) ∙ sym (append_assoc (clipped lo hi b.start b.end) (clips lo hi l) (clips lo hi k))

-- a rule's blocks of the window are its whole blocks cut to it
clips-on : (lo hi : ℕ) (r : Rule) (d : ℕ) → clips lo hi (map forget (whole_on r d)) ≡ clipped lo hi (start_of r d) (end_of r d)
unfolding whole_on joined clipped
clips-on lo hi r d =
    by-test (ltb (start_of r d) (end_of r d))
    (λ e. rw e (append-nil (clipped lo hi (start_of r d) (end_of r d))))
    (λ e. rw e (let h = ltb-false (start_of r d) (end_of r d) e in rw (le-ltb (max (start_of r d) lo) (min (end_of r d) hi) (omega arith))))

clips-joined : {A : Type 0} (lo hi : ℕ) (f : A → List MarkedBlock) (g : A → List Block) → ((a : A) → clips lo hi (map forget (f a)) ≡ g a) → (l : List A) → clips lo hi (map forget (joined (map f l))) ≡ joined (map g l)
unfolding joined
clips-joined lo hi f g h [] = refl
clips-joined lo hi f g h (a ∷ l) =
    ap (clips lo hi) (append-forgets (f a) (joined (map f l))) ∙ clips-append lo hi (map forget (f a)) (map forget (joined (map f l))) ∙ ap₂ ◌++◌ (h a) (clips-joined lo hi f g h l)

clips-rule : (lo hi : ℕ) (r : Rule) → clips lo hi (map forget (whole_of lo hi r)) ≡ blocks_of lo hi r
unfolding whole_of blocks_of
clips-rule lo hi r = clips-joined lo hi (whole_on r) (λ d. clipped lo hi (start_of r d) (end_of r d)) (clips-on lo hi r) (filter r.on (local_dates r.zone lo hi))

pub clips-whole : (lo hi : ℕ) (l : List Rule) → clips lo hi (map forget (whole_of_all lo hi l)) ≡ blocks_of_all lo hi l
unfolding whole_of_all
clips-whole lo hi l = clips-joined lo hi (whole_of lo hi) (blocks_of lo hi) (clips-rule lo hi) l

-- the whole blocks and those cut to the window hold the same instants of the window
pub blocks-whole : (t lo hi : ℕ) (l : List Rule) → InBlocks t (blocks_of_all lo hi l) ↔ (((lo ≤ t) × (t < hi)) × InBlocks t (map forget (whole_of_all lo hi l)))
blocks-whole t lo hi l = rw (← (clips-whole lo hi l)) (clips-in t lo hi (map forget (whole_of_all lo hi l)))

-- without the marks: the working time of the window
pub working-forgets : (s : Schedule) (lo hi : ℕ) → map forget (marked_working s lo hi) ≡ working s lo hi
unfolding marked_working working
working-forgets s lo hi =
    let w = whole_of_all lo hi s.work in
    let g = whole_of_all lo hi (off_rules s) in
    let p = whole-nonempty lo hi s.work in
    let q = whole-nonempty lo hi (off_rules s) in
    let a = union (blocks_of_all lo hi s.work) in
    let b = union (blocks_of_all lo hi (off_rules s)) in
    let m = union-normal (blocks_of_all lo hi s.work) (all-nonempty lo hi s.work) in
    let n = union-normal (blocks_of_all lo hi (off_rules s)) (all-nonempty lo hi (off_rules s)) in
    normal-unique (map forget (windowed lo hi (whole_left w g))) (subtract a b) (window-normal w g p q lo hi) (subtract-normal a b m n)
    (λ t.
    let d = window-in w g p q lo hi t in
    let e = subtract-in t a b n in
    let f = union-in t (blocks_of_all lo hi s.work) in
    let h = union-in t (blocks_of_all lo hi (off_rules s)) in
    let x = blocks-whole t lo hi s.work in
    let y = blocks-whole t lo hi (off_rules s) in (
      λ i. let k = d.0 i in e.1 (f.1 (x.1 (k.0, k.1.0)), λ j. k.1.1 (y.0 (h.0 j)).1),
      λ i. let k = e.0 i in let o = x.0 (f.0 k.0) in d.1 (o.0, (o.1, λ j. k.1 (h.1 (y.1 (o.0, j))))),
    ))
