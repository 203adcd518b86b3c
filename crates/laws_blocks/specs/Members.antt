-- Which instants a list of blocks holds, and the lists in normal form. `union` and `subtract` mean union and difference of the instants,
-- both give normal forms, and a normal form is determined by its instants: so order, ties and repeats in a list do not matter to its union.
use Rattle.std.specs.Prelude.{ℕ, suc, ◌<◌, ◌≤◌, min, max, ◌≡◌, refl, Bool, true, false, ◌&&◌, ◌||◌, ◌⊎◌, ◌↔◌, List, [], ◌∷◌, ◌++◌, ltb, leb}
use Rattle.std.proofs.Common.{sym, ◌∙◌, ap₂, inl, inr, ⊎_elim, arith, ltb-true, ltb-false, leb-true, leb-false, lt-ltb, le-leb}
use Rattle.model.specs.Blocks.{Block, block, put, clipped, insert, sorted, merged_from, merged, union, cut, subtract}
use Rattle.laws_base.specs.Test.{by-test, and_both, clash}

-- the instant t is in a block of the list
abbrev pub InBlocks : ℕ → List Block → Type 0
InBlocks t [] = ⊥
InBlocks t (b ∷ l) = ((b.start ≤ t) × (t < b.end)) ⊎ InBlocks t l

-- the same as a test
abbrev pub covers : List Block → ℕ → Bool
covers [] t = false
covers (b ∷ l) t = (leb b.start t && ltb t b.end) || covers l t

abbrev pub NonEmpty : List Block → Type 0
NonEmpty [] = Unit {0}
NonEmpty (b ∷ l) = (b.start < b.end) × NonEmpty l

-- the blocks start at m or later, none is empty, and there is a gap from each to the next
abbrev pub Chain : ℕ → List Block → Type 0
Chain m [] = Unit {0}
Chain m (b ∷ l) = (m ≤ b.start) × (b.start < b.end) × Chain (suc b.end) l

abbrev pub Normal : List Block → Type 0
Normal l = Chain 0 l

-- every block ends at e or before
abbrev pub Ends : ℕ → List Block → Type 0
Ends e [] = Unit {0}
Ends e (b ∷ l) = (b.end ≤ e) × Ends e l

-- every block starts at m or later
abbrev pub From : ℕ → List Block → Type 0
From m [] = Unit {0}
From m (b ∷ l) = (m ≤ b.start) × From m l

-- by start
abbrev pub Sorted : List Block → Type 0
Sorted [] = Unit {0}
Sorted (b ∷ l) = From b.start l × Sorted l

pub halves : (a b : ℕ) → (a < b) ⊎ (b ≤ a)
halves a b = by-test (ltb a b) (λ e. inl (ltb-true a b e)) (λ e. inr (ltb-false a b e))

-- ---- the test

inside : (t : ℕ) (b : Block) → (leb b.start t && ltb t b.end) ≡ true → (b.start ≤ t) × (t < b.end)
inside t b e = let h = and_both (leb b.start t) (ltb t b.end) e in (leb-true b.start t h.0, ltb-true t b.end h.1)

pub covers-in : (t : ℕ) (l : List Block) → covers l t ≡ true → InBlocks t l
covers-in t [] e = clash false e refl
covers-in t (b ∷ l) e = by-test (leb b.start t && ltb t b.end) (λ p. inl (inside t b p)) (λ p. inr (covers-in t l (rw p at e)))

pub in-covers : (t : ℕ) (l : List Block) → InBlocks t l → covers l t ≡ true
in-covers t [] h = absurd h
in-covers t (b ∷ l) h =
    ⊎_elim
    (λ k. rw (le-leb b.start t k.0, lt-ltb t b.end k.1))
    (λ k. by-test (leb b.start t && ltb t b.end) (λ p. rw p) (λ p. rw p (in-covers t l k)))
    h

pub not-covers : (t : ℕ) (l : List Block) → (InBlocks t l → ⊥) → covers l t ≡ false
not-covers t l h = by-test (covers l t) (λ e. absurd (h (covers-in t l e))) (λ e. e)

pub covers-not : (t : ℕ) (l : List Block) → covers l t ≡ false → InBlocks t l → ⊥
covers-not t l e i = clash (covers l t) (in-covers t l i) e

-- two lists with the same instants have the same test
pub same_test : (t : ℕ) (l k : List Block) → InBlocks t l ↔ InBlocks t k → covers l t ≡ covers k t
same_test t l k h =
    by-test (covers k t)
    (λ p. in-covers t l (h.1 (covers-in t k p)) ∙ sym p)
    (λ p. not-covers t l (λ i. covers-not t k p (h.0 i)) ∙ sym p)

-- ---- lists put together

pub append-in : (t : ℕ) (l k : List Block) → InBlocks t (l ++ k) ↔ (InBlocks t l ⊎ InBlocks t k)
append-in t [] k = (λ m. inr m, ⊎_elim (λ m. absurd m) (λ m. m))
append-in t (b ∷ l) k =
    let ih = append-in t l k in (
      ⊎_elim (λ m. inl (inl m)) (λ m. ⊎_elim (λ h. inl (inr h)) (λ h. inr h) (ih.0 m)),
      ⊎_elim (⊎_elim (λ m. inl m) (λ m. inr (ih.1 (inl m)))) (λ m. inr (ih.1 (inr m))),
    )

pub append-nonempty : (l k : List Block) → NonEmpty l → NonEmpty k → NonEmpty (l ++ k)
append-nonempty [] k n o = o
append-nonempty (b ∷ l) k n o = (n.0, append-nonempty l k n.1 o)

put_in : (t s e : ℕ) (l : List Block) → InBlocks t (put s e l) ↔ (((s ≤ t) × (t < e)) ⊎ InBlocks t l)
put_in t s e l =
    by-test (ltb s e)
    (λ q. rw q (λ m. m, λ m. m))
    (λ q. rw q (λ m. inr m, ⊎_elim (λ m. absurd (omega (arith, ltb-false s e q))) (λ m. m)))

-- ---- clipped

within : (t lo hi s e : ℕ) → ((max s lo ≤ t) × (t < min e hi)) ↔ (((lo ≤ t) × (t < hi)) × ((s ≤ t) × (t < e)))
within t lo hi s e = (λ m. ((omega arith, omega arith), (omega arith, omega arith)), λ m. (omega arith, omega arith))

-- a clipped block has the instants of [s, e) in [lo, hi)
pub clipped-in : (t lo hi s e : ℕ) → InBlocks t (clipped lo hi s e) ↔ (((lo ≤ t) × (t < hi)) × ((s ≤ t) × (t < e)))
unfolding clipped
clipped-in t lo hi s e =
    let p = put_in t (max s lo) (min e hi) [] in
    let w = within t lo hi s e in
    (λ m. w.0 (⊎_elim (λ h. h) (λ h. absurd h) (p.0 m)), λ m. p.1 (inl (w.1 m)))

pub clipped-nonempty : (lo hi s e : ℕ) → NonEmpty (clipped lo hi s e)
unfolding clipped
clipped-nonempty lo hi s e = by-test (ltb (max s lo) (min e hi)) (λ q. rw q (ltb-true (max s lo) (min e hi) q, tt)) (λ q. rw q tt)

-- ---- sorting

pub from-weaken : (m k : ℕ) (l : List Block) → m ≤ k → From k l → From m l
from-weaken m k [] h f = tt
from-weaken m k (b ∷ l) h f = (omega arith, from-weaken m k l h f.1)

pub from_in : (t m : ℕ) (l : List Block) → From m l → InBlocks t l → m ≤ t
from_in t m [] f h = absurd h
from_in t m (b ∷ l) f h = ⊎_elim (λ k. omega (arith, f.0)) (λ k. from_in t m l f.1 k) h

from-insert : (m : ℕ) (b : Block) (l : List Block) → m ≤ b.start → From m l → From m (insert b l)
unfolding insert
from-insert m b [] h f = (h, tt)
from-insert m b (c ∷ l) h f = by-test (leb b.start c.start) (λ e. rw e (h, f)) (λ e. rw e (f.0, from-insert m b l h f.1))

insert-sorted : (b : Block) (l : List Block) → Sorted l → Sorted (insert b l)
unfolding insert
insert-sorted b [] s = (tt, tt)
insert-sorted b (c ∷ l) s =
    by-test (leb b.start c.start)
    (λ e. let h : b.start ≤ c.start = leb-true b.start c.start e in
    rw e ((h, from-weaken b.start c.start l h s.0), s))
    (λ e. let h : c.start < b.start = leb-false b.start c.start e in
    rw e (from-insert c.start b l (omega arith) s.0, insert-sorted b l s.1))

insert-in : (t : ℕ) (b : Block) (l : List Block) → InBlocks t (insert b l) ↔ InBlocks t (b ∷ l)
unfolding insert
insert-in t b [] = (λ m. m, λ m. m)
insert-in t b (c ∷ l) =
    by-test (leb b.start c.start)
    (λ e. rw e (λ m. m, λ m. m))
    (λ e. let ih = insert-in t b l in
    rw e (
      ⊎_elim (λ h. inr (inl h)) (λ h. ⊎_elim (λ k. inl k) (λ k. inr (inr k)) (ih.0 h)),
      ⊎_elim (λ h. inr (ih.1 (inl h))) (⊎_elim (λ k. inl k) (λ k. inr (ih.1 (inr k)))),
    ))

insert_nonempty : (b : Block) (l : List Block) → b.start < b.end → NonEmpty l → NonEmpty (insert b l)
unfolding insert
insert_nonempty b [] h n = (h, tt)
insert_nonempty b (c ∷ l) h n = by-test (leb b.start c.start) (λ e. rw e (h, n)) (λ e. rw e (n.0, insert_nonempty b l h n.1))

pub sorted-sorted : (l : List Block) → Sorted (sorted l)
unfolding sorted
sorted-sorted [] = tt
sorted-sorted (b ∷ l) = insert-sorted b (sorted l) (sorted-sorted l)

pub sorted-in : (t : ℕ) (l : List Block) → InBlocks t (sorted l) ↔ InBlocks t l
unfolding sorted
sorted-in t [] = (λ m. m, λ m. m)
sorted-in t (b ∷ l) =
    let ih = sorted-in t l in
    let i = insert-in t b (sorted l) in
    (λ m. ⊎_elim (λ h. inl h) (λ h. inr (ih.0 h)) (i.0 m), λ m. i.1 (⊎_elim (λ h. inl h) (λ h. inr (ih.1 h)) m))

pub sorted-nonempty : (l : List Block) → NonEmpty l → NonEmpty (sorted l)
unfolding sorted
sorted-nonempty [] n = tt
sorted-nonempty (b ∷ l) n = insert_nonempty b (sorted l) n.0 (sorted-nonempty l n.1)

-- ---- merging

-- a block and one that starts in it or at its end, made one
joined_in : (t : ℕ) (b c : Block) (l : List Block) → b.start ≤ c.start → c.start ≤ b.end → InBlocks t (block b.start (max b.end c.end) ∷ l) ↔ InBlocks t (b ∷ c ∷ l)
joined_in t b c l f h = (
  ⊎_elim (λ k. ⊎_elim (λ o. inl (omega arith)) (λ o. inr (inl (omega arith))) (halves t b.end)) (λ k. inr (inr k)),
  ⊎_elim (λ k. inl (omega arith)) (⊎_elim (λ k. inl (omega arith)) (λ k. inr k)),
)

merged-from-in : (t : ℕ) (b : Block) (l : List Block) → From b.start l → Sorted l → InBlocks t (merged_from b l) ↔ InBlocks t (b ∷ l)
unfolding merged_from
merged-from-in t b [] f s = (λ m. m, λ m. m)
merged-from-in t b (c ∷ l) f s =
    by-test (leb c.start b.end)
    (λ e.
    let q = merged-from-in t (block b.start (max b.end c.end)) l f.1 s.1 in
    let o = joined_in t b c l f.0 (leb-true c.start b.end e) in
    rw e (λ m. o.0 (q.0 m), λ m. q.1 (o.1 m)))
    (λ e.
    let p = merged-from-in t c l s.0 s.1 in
    rw e (⊎_elim (λ k. inl k) (λ k. inr (p.0 k)), ⊎_elim (λ k. inl k) (λ k. inr (p.1 k))))

pub merged-in : (t : ℕ) (l : List Block) → Sorted l → InBlocks t (merged l) ↔ InBlocks t l
unfolding merged
merged-in t [] s = (λ m. m, λ m. m)
merged-in t (b ∷ l) s = merged-from-in t b l s.0 s.1

merged-from-chain : (m : ℕ) (b : Block) (l : List Block) → m ≤ b.start → b.start < b.end → From b.start l → Sorted l → NonEmpty l → Chain m (merged_from b l)
unfolding merged_from
merged-from-chain m b [] h k f s n = (h, k, tt)
merged-from-chain m b (c ∷ l) h k f s n =
    by-test (leb c.start b.end)
    (λ e. rw e (merged-from-chain m (block b.start (max b.end c.end)) l h (omega arith) f.1 s.1 n.1))
    (λ e. rw e (h, k, merged-from-chain (suc b.end) c l (leb-false c.start b.end e) n.0 s.0 s.1 n.1))

pub merged-chain : (m : ℕ) (l : List Block) → From m l → Sorted l → NonEmpty l → Chain m (merged l)
unfolding merged
merged-chain m [] f s n = tt
merged-chain m (b ∷ l) f s n = merged-from-chain m b l f.0 n.0 s.0 s.1 n.1

from_zero : (l : List Block) → From 0 l
from_zero [] = tt
from_zero (b ∷ l) = (omega arith, from_zero l)

-- ---- union

-- an instant is in the union exactly where it is in a block
pub union-in : (t : ℕ) (l : List Block) → InBlocks t (union l) ↔ InBlocks t l
unfolding union
union-in t l =
    let m = merged-in t (sorted l) (sorted-sorted l) in
    let s = sorted-in t l in
    (λ h. s.0 (m.0 h), λ h. m.1 (s.1 h))

-- the union has no empty block, and a gap from each block to the next
pub union-normal : (l : List Block) → NonEmpty l → Normal (union l)
unfolding union
union-normal l n = merged-chain 0 (sorted l) (from_zero (sorted l)) (sorted-sorted l) (sorted-nonempty l n)

-- ---- normal forms

pub chain-from : (t m : ℕ) (l : List Block) → Chain m l → InBlocks t l → m ≤ t
chain-from t m [] c h = absurd h
chain-from t m (b ∷ l) c h = ⊎_elim (λ k. omega arith) (λ k. omega (arith, chain-from t (suc b.end) l c.2 k)) h

pub chain-weaken : (m k : ℕ) (l : List Block) → m ≤ k → Chain k l → Chain m l
chain-weaken m k [] h c = tt
chain-weaken m k (b ∷ l) h c = (omega arith, c.1, c.2)

pub chain-sorted : (m : ℕ) (l : List Block) → Chain m l → Sorted l × From m l
chain-sorted m [] c = (tt, tt)
chain-sorted m (b ∷ l) c =
    let ih = chain-sorted (suc b.end) l c.2 in
    ((from-weaken b.start (suc b.end) l (omega arith) ih.1, ih.0), (c.0, from-weaken m (suc b.end) l (omega arith) ih.1))

pub chain-nonempty : (m : ℕ) (l : List Block) → Chain m l → NonEmpty l
chain-nonempty m [] c = tt
chain-nonempty m (b ∷ l) c = (c.1, chain-nonempty (suc b.end) l c.2)

same-chain : (m : ℕ) (l k : List Block) → Chain m l → Chain m k → ((t : ℕ) → InBlocks t l ↔ InBlocks t k) → l ≡ k
same-chain m [] [] c d h = refl
same-chain m [] (b ∷ l) c d h = absurd ((h b.start).1 (inl (omega arith)))
same-chain m (b ∷ l) [] c d h = absurd ((h b.start).0 (inl (omega arith)))
same-chain m (b ∷ l) (d ∷ k) p q h =
    let f : b.start ≡ d.start = omega (arith, starts-at b l d k p q (λ t. (h t).0), starts-at d k b l q p (λ t. (h t).1)) in
    let g : b.end ≡ d.end = omega (arith, ends_by b l d k p q f (λ t. (h t).1), ends_by d k b l q p (sym f) (λ t. (h t).0)) in
    ap₂ {C = List Block} ◌∷◌ (λ i. record { start = f i; end = g i })
    (same-chain (suc b.end) l k p.2 (chain-weaken (suc b.end) (suc d.end) k (omega arith) q.2)
    (λ t. (rest b l d k p q g (λ t. (h t).0) t, rest d k b l q p (sym g) (λ t. (h t).1) t)))
  where
    starts-at : {m : ℕ} (b : Block) (l : List Block) (d : Block) (k : List Block) → Chain m (b ∷ l) → Chain m (d ∷ k) → ((t : ℕ) → InBlocks t (b ∷ l) → InBlocks t (d ∷ k)) → d.start ≤ b.start
    starts-at b l d k p q h = chain-from b.start d.start (d ∷ k) (omega arith, q.1, q.2) (h b.start (inl (omega arith)))

    ends_by : {m : ℕ} (b : Block) (l : List Block) (d : Block) (k : List Block) → Chain m (b ∷ l) → Chain m (d ∷ k) → b.start ≡ d.start → ((t : ℕ) → InBlocks t (d ∷ k) → InBlocks t (b ∷ l)) → d.end ≤ b.end
    ends_by b l d k p q f h =
        ⊎_elim
        (λ o. absurd (⊎_elim (λ i. omega arith) (λ i. omega (arith, chain-from b.end (suc b.end) l p.2 i)) (h b.end (inl (omega arith)))))
        (λ o. o)
        (halves b.end d.end)

    rest : {m : ℕ} (b : Block) (l : List Block) (d : Block) (k : List Block) → Chain m (b ∷ l) → Chain m (d ∷ k) → b.end ≡ d.end → ((t : ℕ) → InBlocks t (b ∷ l) → InBlocks t (d ∷ k)) → (t : ℕ) → InBlocks t l → InBlocks t k
    rest b l d k p q g h t i =
        let o : suc b.end ≤ t = chain-from t (suc b.end) l p.2 i in
        ⊎_elim (λ e. absurd (omega arith)) (λ e. e) (h t (inr i))

-- two normal lists with the same instants are equal
pub normal-unique : (l k : List Block) → Normal l → Normal k → ((t : ℕ) → InBlocks t l ↔ InBlocks t k) → l ≡ k
normal-unique l k = same-chain 0 l k

-- lists with the same instants have the same union: order, ties and repeats do not matter
pub union-same : (l k : List Block) → NonEmpty l → NonEmpty k → ((t : ℕ) → InBlocks t l ↔ InBlocks t k) → union l ≡ union k
union-same l k n o h =
    normal-unique (union l) (union k) (union-normal l n) (union-normal k o)
    (λ t. (λ i. (union-in t k).1 ((h t).0 ((union-in t l).0 i)), λ i. (union-in t l).1 ((h t).1 ((union-in t k).0 i))))

-- any way to sort gives the same union
pub merged-any : (s l : List Block) → Sorted s → NonEmpty s → NonEmpty l → ((t : ℕ) → InBlocks t s ↔ InBlocks t l) → merged s ≡ union l
merged-any s l o n k h =
    normal-unique (merged s) (union l) (merged-chain 0 s (from_zero s) o n) (union-normal l k)
    (λ t. (λ i. (union-in t l).1 ((h t).0 ((merged-in t s o).0 i)), λ i. (merged-in t s o).1 ((h t).1 ((union-in t l).0 i))))

-- a normal list is its own union
pub union-again : (l : List Block) → Normal l → union l ≡ l
union-again l c = normal-unique (union l) l (union-normal l (chain-nonempty 0 l c)) c (λ t. union-in t l)

-- ---- subtract

-- [s, e) without the blocks of off
cut_in : (t s e : ℕ) (off : List Block) → Sorted off → InBlocks t (cut s e off) ↔ (((s ≤ t) × (t < e)) × (InBlocks t off → ⊥))
unfolding cut
cut_in t s e [] o =
    let p = put_in t s e [] in
    (λ m. (⊎_elim (λ h. h) (λ h. absurd h) (p.0 m), λ h. h), λ m. p.1 (inl m.0))
cut_in t s e (g ∷ off) o =
    by-test (leb g.end s)
    (λ p.
    let ih = cut_in t s e off o.1 in
    rw p (
      λ m. let k = ih.0 m in (k.0, ⊎_elim (λ i. omega (arith, leb-true g.end s p)) k.1),
      λ m. ih.1 (m.0, λ i. m.1 (inr i)),
    ))
    (λ p. by-test (leb e g.start)
    (λ q.
    let w = put_in t s e [] in
    rw (p, q) (
      λ m. ⊎_elim (λ h. (h, ⊎_elim (λ i. omega (arith, leb-true e g.start q)) (λ i. omega (arith, from_in t g.start off o.0 i, leb-true e g.start q)))) (λ h. absurd h) (w.0 m),
      λ m. w.1 (inl m.0),
    ))
    (λ q.
    let ih = cut_in t g.end e off o.1 in
    let w = put_in t s g.start (cut g.end e off) in
    let a : s < g.end = leb-false g.end s p in
    let b : g.start < e = leb-false e g.start q in
    rw (p, q) (
      λ m.
          ⊎_elim
          (λ h. ((omega arith, omega arith), ⊎_elim (λ i. omega arith) (λ i. omega (arith, from_in t g.start off o.0 i))))
          (λ h. let k = ih.0 h in ((omega arith, omega arith), ⊎_elim (λ i. omega arith) k.1))
          (w.0 m),
      λ m.
          w.1
          (⊎_elim
          (λ h. inl (omega arith, h))
          (λ h. ⊎_elim (λ k. absurd (m.1 (inl (h, k)))) (λ k. inr (ih.1 ((k, omega arith), λ i. m.1 (inr i)))) (halves t g.end))
          (halves t g.start)),
    )))

subtract-from : (t : ℕ) (on off : List Block) → Sorted off → InBlocks t (subtract on off) ↔ (InBlocks t on × (InBlocks t off → ⊥))
unfolding subtract
subtract-from t [] off o = (λ h. absurd h, λ h. h.0)
subtract-from t (b ∷ on) off o =
    let ih = subtract-from t on off o in
    let c = cut_in t b.start b.end off o in
    let a = append-in t (cut b.start b.end off) (subtract on off) in (
      λ m. ⊎_elim (λ h. (inl (c.0 h).0, (c.0 h).1)) (λ h. let k = ih.0 h in (inr k.0, k.1)) (a.0 m),
      λ m. a.1 (⊎_elim (λ h. inl (c.1 (h, m.1))) (λ h. inr (ih.1 (h, m.1))) m.0),
    )

-- an instant is in the difference exactly where it is in `on` and not in `off`
pub subtract-in : (t : ℕ) (on off : List Block) → Normal off → InBlocks t (subtract on off) ↔ (InBlocks t on × (InBlocks t off → ⊥))
subtract-in t on off d = subtract-from t on off (chain-sorted 0 off d).0

chain-append : (m e : ℕ) (l k : List Block) → m ≤ suc e → Chain m l → Ends e l → Chain (suc e) k → Chain m (l ++ k)
chain-append m e [] k h c n d = chain-weaken m (suc e) k h d
chain-append m e (b ∷ l) k h c n d = (c.0, c.1, chain-append (suc b.end) e l k (omega (arith, n.0)) c.2 n.1 d)

-- a piece and what comes behind it
put-chain : (m s f e : ℕ) (l : List Block) → m ≤ s → f ≤ e → Chain m l → Chain (suc f) l → Ends e l → Chain m (put s f l) × Ends e (put s f l)
put-chain m s f e l h i c d n = by-test (ltb s f) (λ q. rw q ((h, ltb-true s f q, d), (i, n))) (λ q. rw q (c, n))

cut-chain : (m s e : ℕ) (off : List Block) → m ≤ s → NonEmpty off → Chain m (cut s e off) × Ends e (cut s e off)
unfolding cut
cut-chain m s e [] h n = put-chain m s e e [] h (omega arith) tt tt tt
cut-chain m s e (g ∷ off) h n =
    by-test (leb g.end s)
    (λ p. rw p (cut-chain m s e off h n.1))
    (λ p. by-test (leb e g.start)
    (λ q. rw (p, q) (put-chain m s e e [] h (omega arith) tt tt tt))
    (λ q.
    let a : s < g.end = leb-false g.end s p in
    let b : g.start < e = leb-false e g.start q in
    let i = cut-chain m g.end e off (omega arith) n.1 in
    let j = cut-chain (suc g.start) g.end e off n.0 n.1 in
    rw (p, q) (put-chain m s g.start e (cut g.end e off) h (omega arith) i.0 j.0 i.1)))

pub subtract-chain : (m : ℕ) (on off : List Block) → Chain m on → NonEmpty off → Chain m (subtract on off)
unfolding subtract
subtract-chain m [] off c n = tt
subtract-chain m (b ∷ on) off c n =
    let d = cut-chain m b.start b.end off c.0 n in
    chain-append m b.end (cut b.start b.end off) (subtract on off) (omega arith) d.0 d.1 (subtract-chain (suc b.end) on off c.2 n)

-- the difference has no empty block, and a gap from each block to the next
pub subtract-normal : (on off : List Block) → Normal on → Normal off → Normal (subtract on off)
subtract-normal on off c d = subtract-chain 0 on off c (chain-nonempty 0 off d)

-- the difference is the only normal list with its instants
pub subtract-same : (on off l : List Block) → Normal on → Normal off → Normal l → ((t : ℕ) → InBlocks t l ↔ (InBlocks t on × (InBlocks t off → ⊥))) → subtract on off ≡ l
subtract-same on off l c d n h =
    normal-unique (subtract on off) l (subtract-normal on off c d) n
    (λ t. let s = subtract-in t on off d in (λ i. (h t).1 (s.0 i), λ i. s.1 ((h t).0 i)))
