-- One block more for a list that is sorted and apart: what the places found say, and that the new list is the union. Assumes nothing.
use Rattle.std.specs.List.Sorted.{IsNonDecreasingBy, IsPartitionPoint}
use Rattle.std.proofs.lemmas.List.Sorted.{IsNonDecreasingBy-from_default}
use mathlib.Core.Bool.{true, false}
use mathlib.Core.Path.{◌≡◌, sym, ◌∙◌, ap, ap₂}
use mathlib.Core.List.{List, [], ◌∷◌, ◌++◌, append_assoc, append-nil}
use mathlib.Core.Logic.{◌⊎◌, inl, inr, ⊎_elim, ◌↔◌}
use Prim.Native.Nat.{ℕ, zero, suc, ◌+◌, ◌*◌, ◌-◌, ◌≤◌, ◌<◌, min, max}
use native.Mathlib.Omega.{arith}
use borrow.Author.Tests.{leb-true, leb-false, lt-ltb, le-ltb}
use lib.Dec.{leb}
use lib.Seq.{get_or-take, length-take-le}
use lib.ListN.{length, get_or, take}
use Rattle.model.specs.Blocks.{Block, block, put, union}
use Rattle.laws_blocks.specs.Members.{InBlocks, NonEmpty, Chain, Normal, From, halves, append-in, append-nonempty, chain-weaken, chain-sorted, chain-nonempty, from_in, union-in, union-normal, normal-unique, union-again}
use Rattle.block_pairs.specs.Pairs.{part, pairs, Reach, StartsTo, EndsFrom, Raised, Lowered, hull}
use Rattle.block_pairs.proofs.Parts.{block_at, block_to, block_same, part_same, pairs-cut, from_cut, from_first, from_back, to_last, pairs-last, from-none, stored, stored_at, stored-front, stored-rest}

-- ---- chains put together and taken apart

-- every block ends before k
abbrev pub Before : ℕ → List Block → Type 0
Before k [] = Unit {0}
Before k (b ∷ l) = (b.end < k) × Before k l

chain-join : (m k : ℕ) (a b : List Block) → m ≤ k → Chain m a → Before k a → Chain k b → Chain m (a ++ b)
chain-join m k [] b h c p d = chain-weaken m k b h d
chain-join m k (x ∷ a) b h c p d = (c.0, c.1, chain-join (suc x.end) k a b p.0 c.2 p.1 d)

chain-front : (m : ℕ) (a b : List Block) → Chain m (a ++ b) → Chain m a
chain-front m [] b c = tt
chain-front m (x ∷ a) b c = (c.0, c.1, chain-front (suc x.end) a b c.2)

chain_back : (m k : ℕ) (a b : List Block) → Chain m (a ++ b) → From k b → Chain k b
chain_back m k [] [] c f = tt
chain_back m k [] (y ∷ b) c f = (f.0, c.1, c.2)
chain_back m k (x ∷ a) b c f = chain_back (suc x.end) k a b c.2 f

chain-start : (m : ℕ) (a : List Block) (y : Block) (b : List Block) → Chain m (a ++ (y ∷ b)) → m ≤ y.start
chain-start m [] y b c = c.0
chain-start m (x ∷ a) y b c = let h = chain-start (suc x.end) a y b c.2 in let p = c.0 in let q = c.1 in omega arith

-- the blocks in front of one end before it starts
chain-before : (m : ℕ) (a : List Block) (y : Block) (b : List Block) → Chain m (a ++ (y ∷ b)) → Before y.start a
chain-before m [] y b c = tt
chain-before m (x ∷ a) y b c = (chain-start (suc x.end) a y b c.2, chain-before (suc x.end) a y b c.2)

-- those behind it start behind its end
chain-after : (m : ℕ) (a : List Block) (y : Block) (b : List Block) → Chain m (a ++ (y ∷ b)) → From (suc y.end) b
chain-after m [] y b c = (chain-sorted (suc y.end) b c.2).1
chain-after m (x ∷ a) y b c = chain-after (suc x.end) a y b c.2

-- the last one
chain-at : (m : ℕ) (a : List Block) (y : Block) (b : List Block) → Chain m (a ++ (y ∷ b)) → y.start < y.end
chain-at m [] y b c = c.1
chain-at m (x ∷ a) y b c = chain-at (suc x.end) a y b c.2

before-weaken : (k n : ℕ) (a : List Block) → k ≤ n → Before k a → Before n a
before-weaken k n [] h p = tt
before-weaken k n (x ∷ a) h p = (omega (arith, p.0), before-weaken k n a h p.1)

before-both : (k n : ℕ) (a : List Block) → Before k a → Before n a → Before (min k n) a
before-both k n [] p q = tt
before-both k n (x ∷ a) p q = let u = p.0 in let v = q.0 in (omega arith, before-both k n a p.1 q.1)

before-snoc : (k : ℕ) (a : List Block) (y : Block) → Before k a → y.end < k → Before k (a ++ (y ∷ []))
before-snoc k [] y p h = (h, tt)
before-snoc k (x ∷ a) y p h = (p.0, before-snoc k a y p.1 h)

before-in : (t k : ℕ) (a : List Block) → Before k a → InBlocks t a → t < k
before-in t k [] p i = absurd i
before-in t k (x ∷ a) p i = ⊎_elim (λ h. let u = p.0 in omega arith) (λ h. before-in t k a p.1 h) i

from-both : (k n : ℕ) (a : List Block) → From (suc k) a → From (suc n) a → From (suc (max k n)) a
from-both k n [] p q = tt
from-both k n (x ∷ a) p q = let u = p.0 in let v = q.0 in (omega arith, from-both k n a p.1 q.1)

-- if the last block ends before s, all do
last-before : (s : ℕ) (a : List Block) (y : Block) → Chain 0 (a ++ (y ∷ [])) → y.end < s → Before s (a ++ (y ∷ []))
last-before s a y c h =
    let p = chain-before 0 a y [] c in let q = chain-at 0 a y [] c in
    before-snoc s a y (before-weaken y.start s a (omega arith) p) h

-- ---- the new list is the union

one : (s e : ℕ) → s < e → put s e [] ≡ block s e ∷ []
one s e h = rw (lt-ltb s e h)

-- a list that is sorted and apart and has the instants of l and of [s, e) is their union
is_union : (r l : List Block) (s e : ℕ) → s < e → Normal r → NonEmpty l → ((t : ℕ) → InBlocks t r ↔ (InBlocks t l ⊎ ((s ≤ t) × (t < e)))) → r ≡ union (l ++ put s e [])
is_union r l s e h c n f =
    rw (one s e h)
    (let ne : NonEmpty (l ++ (block s e ∷ [])) = append-nonempty l (block s e ∷ []) n (h, tt) in
    normal-unique r (union (l ++ (block s e ∷ []))) c (union-normal (l ++ (block s e ∷ [])) ne)
    (λ t.
    let u = union-in t (l ++ (block s e ∷ [])) in let a = append-in t l (block s e ∷ []) in (
      λ i. u.1 (a.1 (⊎_elim (λ x. inl x) (λ x. inr (inl x)) ((f t).0 i))),
      λ i. (f t).1 (⊎_elim (λ x. inl x) (⊎_elim (λ x. inr x) (λ x. absurd x)) (a.0 (u.0 i))),
    )))

module _ (a b : List Block) (s e : ℕ) (h : s < e) (p : Before s a) (q : From (suc e) b) where
  -- it touches none
  pub union-apart : Normal (a ++ b) → a ++ (block s e ∷ b) ≡ union ((a ++ b) ++ put s e [])
  union-apart c =
      is_union (a ++ (block s e ∷ b)) (a ++ b) s e h
      (chain-join 0 s a (block s e ∷ b) (omega arith) (chain-front 0 a b c) p (omega arith, h, chain_back 0 (suc e) a b c q))
      (chain-nonempty 0 (a ++ b) c)
      (λ t.
      let u = append-in t a (block s e ∷ b) in let v = append-in t a b in (
        λ i. ⊎_elim (λ x. inl (v.1 (inl x))) (⊎_elim (λ x. inr x) (λ x. inl (v.1 (inr x)))) (u.0 i),
        λ i. ⊎_elim (λ x. ⊎_elim (λ y. u.1 (inl y)) (λ y. u.1 (inr (inr y))) (v.0 x)) (λ x. u.1 (inr (inl x))) i,
      ))

  module _ (m : List Block) (y : Block) (rest : List Block) (i : m ≡ y ∷ rest) (front : List Block) (z : Block) (j : m ≡ front ++ (z ∷ []))
      (r : s ≤ y.end) (g : z.start ≤ e) (c : Normal (a ++ (m ++ b))) where
    mc : Chain 0 m
    mc = chain-front 0 m b (chain_back 0 0 a (m ++ b) c (from_zero (m ++ b)))
      where
        from_zero : (l : List Block) → From 0 l
        from_zero [] = tt
        from_zero (b ∷ l) = (omega arith, from_zero l)

    -- the instants of [s, e) and of the blocks that it touches
    hull-in : (t : ℕ) → ((min s y.start ≤ t) × (t < max e z.end)) ↔ (InBlocks t m ⊎ ((s ≤ t) × (t < e)))
    hull-in t =
        let low : From y.start (y ∷ rest) = (omega arith, (chain-sorted 0 (y ∷ rest) (rw i at mc)).0.0) in
        let cz : Chain 0 (front ++ (z ∷ [])) = rw j at mc in
        let high : Before (suc z.end) (front ++ (z ∷ [])) = last-before (suc z.end) front z cz (omega arith) in (
          λ k. ⊎_elim
              (λ (x : t < s). inl (rw i (inl (omega arith, omega arith))))
              (λ (x : s ≤ t). ⊎_elim (λ w. inr (x, w)) (λ w. inl (rw j ((append-in t front (z ∷ [])).1 (inr (inl (omega arith, omega arith)))))) (halves t e))
              (halves t s),
          ⊎_elim
              (λ x. let u : y.start ≤ t = from_in t y.start (y ∷ rest) low (rw i at x) in let v = strict t x in (omega arith, omega arith))
              (λ x. (omega arith, omega arith)),
        )
      where
        strict : (t : ℕ) → InBlocks t m → t < z.end
        strict t x = ⊎_elim (λ k. let cz : Chain 0 (front ++ (z ∷ [])) = rw j at mc in let u = before-in t z.start front (chain-before 0 front z [] cz) k in let v = chain-at 0 front z [] cz in omega arith) (⊎_elim (λ k. k.1) (λ k. absurd k)) ((append-in t front (z ∷ [])).0 (rw j at x))

    -- it becomes one with those that it touches
    pub union-touch : a ++ (block (min s y.start) (max e z.end) ∷ b) ≡ union ((a ++ (m ++ b)) ++ put s e [])
    union-touch =
        let c1 : Chain 0 (a ++ (y ∷ (rest ++ b))) = rw i at c in
        let b1 = chain-before 0 a y (rest ++ b) c1 in
        let c2 : Chain 0 ((a ++ front) ++ (z ∷ b)) = shape (rw j at c) in
        let f1 = chain-after 0 (a ++ front) z b c2 in
        is_union (a ++ (block (min s y.start) (max e z.end) ∷ b)) (a ++ (m ++ b)) s e h
        (chain-join 0 (min s y.start) a (block (min s y.start) (max e z.end) ∷ b) (omega arith) (chain-front 0 a (m ++ b) c) (before-both s y.start a p b1)
        (omega arith, omega arith, chain_back 0 (suc (max e z.end)) (a ++ (front ++ (z ∷ []))) b (shape2 (rw j at c)) (from-both e z.end b q f1)))
        (chain-nonempty 0 (a ++ (m ++ b)) c)
        (λ t.
        let u = append-in t a (block (min s y.start) (max e z.end) ∷ b) in let v = append-in t a (m ++ b) in let w = append-in t m b in let k = hull-in t in (
          λ x. ⊎_elim (λ x. inl (v.1 (inl x))) (⊎_elim (λ x. ⊎_elim (λ x. inl (v.1 (inr (w.1 (inl x))))) (λ x. inr x) (k.0 x)) (λ x. inl (v.1 (inr (w.1 (inr x)))))) (u.0 x),
          λ x. ⊎_elim (λ x. ⊎_elim (λ x. u.1 (inl x)) (λ x. ⊎_elim (λ x. u.1 (inr (inl (k.1 (inl x))))) (λ x. u.1 (inr (inr x))) (w.0 x)) (v.0 x)) (λ x. u.1 (inr (inl (k.1 (inr x))))) x,
        ))
      where
        shape : Chain 0 (a ++ ((front ++ (z ∷ [])) ++ b)) → Chain 0 ((a ++ front) ++ (z ∷ b))
        shape x = rw (append_assoc front (z ∷ []) b, ← append_assoc a front (z ∷ b)) at x

        shape2 : Chain 0 (a ++ ((front ++ (z ∷ [])) ++ b)) → Chain 0 ((a ++ (front ++ (z ∷ []))) ++ b)
        shape2 x = rw (← append_assoc a (front ++ (z ∷ [])) b) at x

-- ---- the places

start-holds : (l : List ℕ) (n e : ℕ) → From (suc e) (part n (n - n) l)
start-holds l n e = rw (from-none n l) tt

-- the starts and ends of blocks that are sorted and apart rise in turn
all-from : (a n m : ℕ) (l : List ℕ) → Chain m (part a n l) → (x : ℕ) → x < 2 * n → m ≤ get_or l (2 * a + x) 0
unfolding part
all-from a zero m l c x h = absurd (omega arith)
all-from a (suc n) m l c zero h = let p = c.0 in let e : get_or l (2 * a + 0) 0 ≡ get_or l (2 * a) 0 = ap (λ (i : ℕ). get_or l i 0) (omega arith) in omega arith
all-from a (suc n) m l c (suc zero) h = let p = c.0 in let q = c.1 in omega arith
all-from a (suc n) m l c (suc (suc x)) h =
    let p = c.0 in let q = c.1 in
    let r = all-from (suc a) n (suc (get_or l (2 * a + 1) 0)) l c.2 x (omega arith) in
    let e : get_or l (2 * a + suc (suc x)) 0 ≡ get_or l (2 * suc a + x) 0 = ap (λ (i : ℕ). get_or l i 0) (omega arith) in
    omega arith

rise : (a n m : ℕ) (l : List ℕ) → Chain m (part a n l) → (x y : ℕ) → x ≤ y → y < 2 * n → get_or l (2 * a + x) 0 ≤ get_or l (2 * a + y) 0
unfolding part
rise a zero m l c x y h k = absurd (omega arith)
rise a (suc n) m l c zero y h k =
    let r = all-from a (suc n) (get_or l (2 * a) 0) l (omega arith, c.1, c.2) y k in
    let e : get_or l (2 * a + 0) 0 ≡ get_or l (2 * a) 0 = ap (λ (i : ℕ). get_or l i 0) (omega arith) in
    omega arith
rise a (suc n) m l c (suc zero) zero h k = absurd (omega arith)
rise a (suc n) m l c (suc zero) (suc zero) h k = omega arith
rise a (suc n) m l c (suc zero) (suc (suc y)) h k =
    let r = all-from (suc a) n (suc (get_or l (2 * a + 1) 0)) l c.2 y (omega arith) in
    let e : get_or l (2 * a + suc (suc y)) 0 ≡ get_or l (2 * suc a + y) 0 = ap (λ (i : ℕ). get_or l i 0) (omega arith) in
    omega arith
rise a (suc n) m l c (suc (suc x)) zero h k = absurd (omega arith)
rise a (suc n) m l c (suc (suc x)) (suc zero) h k = absurd (omega arith)
rise a (suc n) m l c (suc (suc x)) (suc (suc y)) h k =
    let r = rise (suc a) n (suc (get_or l (2 * a + 1) 0)) l c.2 x y (omega arith) (omega arith) in
    let e : get_or l (2 * a + suc (suc x)) 0 ≡ get_or l (2 * suc a + x) 0 = ap (λ (i : ℕ). get_or l i 0) (omega arith) in
    let f : get_or l (2 * a + suc (suc y)) 0 ≡ get_or l (2 * suc a + y) 0 = ap (λ (i : ℕ). get_or l i 0) (omega arith) in
    omega arith

-- blocks whose starts are behind e
from-starts : (e a n : ℕ) (l : List ℕ) → ((k : ℕ) → a ≤ k → k < a + n → e < get_or l (2 * k) 0) → From (suc e) (part a n l)
unfolding part
from-starts e a zero l h = tt
from-starts e a (suc n) l h = (h a (omega arith) (omega arith), from-starts e (suc a) n l (λ k p q. h k (omega arith) (omega arith)))

-- all of them
pub all-started : (l : List ℕ) (n e : ℕ) → get_or l (2 * n - 2) 0 ≤ e → StartsTo l n e n
all-started l n e p = record { upto = omega arith; behind = start-holds l n e; last = λ _. p }

-- a search over starts and ends alike
module _ (l : List ℕ) (n e : ℕ) (w : Normal (pairs n l)) (h : 2 * n ≤ length l) where
  pub numbers-rise : IsNonDecreasingBy (λ (x : ℕ). x) (take (2 * n) l)
  numbers-rise = IsNonDecreasingBy-from_default (λ (x : ℕ). x) (take (2 * n) l) 0
      (λ i j o k.
      let b = length-take-le (2 * n) l h in
      let p = get_or-take (2 * n) l i 0 (omega arith) in
      let q = get_or-take (2 * n) l j 0 (omega arith) in
      let r = rise 0 n 0 l w i j o (omega arith) in
      let f : get_or l (2 * 0 + i) 0 ≡ get_or l i 0 = ap (λ (x : ℕ). get_or l x 0) (omega arith) in
      let g : get_or l (2 * 0 + j) 0 ≡ get_or l j 0 = ap (λ (x : ℕ). get_or l x 0) (omega arith) in
      omega arith)

  pub half-started : (p i : ℕ) → p ≤ length (take (2 * n) l) → IsPartitionPoint (λ (y : ℕ). leb y e ≡ true) (λ (y : ℕ). leb y e ≡ false) (take (2 * n) l) p → (p ≤ i * 2) × (i * 2 < p + 2) → StartsTo l n e i
  half-started p i k m u =
      let b = length-take-le (2 * n) l h in
      let v : i ≤ n = let y = u.1 in omega arith in
      record {
        upto = v;
        behind = from-starts e i (n - i) l
            (λ x q r. let y = u.0 in let z = leb-false _ _ (m.1 (2 * x) 0 (omega arith) (omega arith)) in let t = get_or-take (2 * n) l (2 * x) 0 (omega arith) in omega arith);
        last = λ q. let y = u.1 in let z = leb-true _ _ (m.0 (2 * i - 2) 0 (omega arith) (omega arith)) in let t = get_or-take (2 * n) l (2 * i - 2) 0 (omega arith) in omega arith;
      }

pub end-holds : (l : List ℕ) (n s : ℕ) → Reach s (part n (n - n) l)
end-holds l n s = rw (from-none n l) tt

pub end-turn : (l : List ℕ) (n s i : ℕ) → 0 < i → i ≤ n → s ≤ get_or l (2 * i - 1) 0 → Reach s (part i (n - i) l) → Reach s (part (i - 1) (n - (i - 1)) l)
end-turn l n s i h k p f = rw (from_back i n l h k) (p, f)

-- ---- a block put in

pub inserted : (l r : List ℕ) (n i s e : ℕ) → i ≤ n → 2 * n + 2 ≤ length l → Raised l r (2 * i) (2 * n)
    → pairs (n + 1) (stored r i s e) ≡ pairs i l ++ (block s e ∷ part i (n - i) l)
inserted l r n i s e h k m =
    let g : (n + 1) - (i + 1) ≡ n - i = omega arith in
    let f : pairs i (stored r i s e) ≡ pairs i l = stored-front r i s e i (omega arith) ∙ part_same 0 0 i r l (λ x u. m.low (2 * 0 + x) (omega arith)) in
    let b : part (i + 1) ((n + 1) - (i + 1)) (stored r i s e) ≡ part i (n - i) l =
    stored-rest r i s e (i + 1) ((n + 1) - (i + 1)) (omega arith)
    ∙ ap (λ (c : ℕ). part (i + 1) c r) g
    ∙ part_same (i + 1) i (n - i) r l (λ x u. ap (λ (y : ℕ). get_or r y 0) (shift x) ∙ m.high (2 * i + x) (omega arith) (omega arith)) in
    pairs-cut i (n + 1) (stored r i s e) (omega arith)
    ∙ ap₂ (λ (x y : List Block). x ++ y) f
    (from_first i (n + 1) (stored r i s e) (omega arith)
    ∙ ap₂ {C = List Block} (λ (x : Block) (y : List Block). x ∷ y) (stored_at r i s e (omega (arith, m.long))) b)
  where
    shift : (x : ℕ) → 2 * (i + 1) + x ≡ 2 * i + x + 2
    shift x = omega arith

pub absorbed : (l r : List ℕ) (n j i s e s' e' : ℕ) → s ≡ s' → e ≡ e' → j < i → i ≤ n → 2 * n ≤ length l → Lowered l r (2 * j + 2) (2 * i) (2 * n - 2 * i)
    → pairs (n - (i - j) + 1) (stored r j s e) ≡ pairs j l ++ (block s' e' ∷ part i (n - i) l)
absorbed l r n j i s e s' e' p o q h k m =
    let g : (n - (i - j) + 1) - (j + 1) ≡ n - i = omega arith in
    let f : pairs j (stored r j s e) ≡ pairs j l = stored-front r j s e j (omega arith) ∙ part_same 0 0 j r l (λ x u. m.low (2 * 0 + x) (omega arith)) in
    let b : part (j + 1) ((n - (i - j) + 1) - (j + 1)) (stored r j s e) ≡ part i (n - i) l =
    stored-rest r j s e (j + 1) ((n - (i - j) + 1) - (j + 1)) (omega arith)
    ∙ ap (λ (c : ℕ). part (j + 1) c r) g
    ∙ part_same (j + 1) i (n - i) r l (λ x u. ap (λ (y : ℕ). get_or r y 0) (shift x) ∙ m.high x (room x u)) in
    pairs-cut j (n - (i - j) + 1) (stored r j s e) (omega arith)
    ∙ ap₂ (λ (x y : List Block). x ++ y) f
    (from_first j (n - (i - j) + 1) (stored r j s e) (omega arith)
    ∙ ap₂ {C = List Block} (λ (x : Block) (y : List Block). x ∷ y) (stored_at r j s e (omega (arith, m.long)) ∙ block_same s e s' e' p o) b)
  where
    shift : (x : ℕ) → 2 * (j + 1) + x ≡ 2 * j + 2 + x
    shift x = omega arith

    room : (x : ℕ) → x < 2 * (n - i) → x < 2 * n - 2 * i
    room x u = omega arith

-- ---- the whole

-- the blocks in front of the place end before s
front-none : (l : List ℕ) (s i : ℕ) → i ≡ 0 → Before s (pairs i l)
unfolding part
front-none l s i e = rw e tt

front-some : (l : List ℕ) (n s i : ℕ) → 0 < i → Normal (pairs n l) → i ≤ n → get_or l (2 * i - 1) 0 < s → Before s (pairs i l)
front-some l n s i z c h f =
    let e : pairs i l ≡ pairs (i - 1) l ++ (block_to l i ∷ []) = pairs-last i l z in
    let d : Chain 0 (pairs i l) = chain-front 0 (pairs i l) (part i (n - i) l) (rw (pairs-cut i n l h) at c) in
    rw e (last-before s (pairs (i - 1) l) (block_to l i) (rw e at d) f)

front-before : (l : List ℕ) (n s i : ℕ) → Normal (pairs n l) → i ≤ n → (0 < i → get_or l (2 * i - 1) 0 < s) → Before s (pairs i l)
front-before l n s i c h f = ⊎_elim (λ (z : 0 < i). front-some l n s i z c h (f z)) (λ (z : i ≤ 0). front-none l s i (omega arith)) (halves 0 i)

module _ (l : List ℕ) (n s e : ℕ) (c : Normal (pairs n l)) where
  pub add_none : e ≤ s → pairs n l ≡ union (pairs n l ++ put s e [])
  add_none h = rw (le-ltb s e h, append-nil (pairs n l)) (sym (union-again (pairs n l) c))

  module _ (h : s < e) (i : ℕ) (p : StartsTo l n e i) where
    pub add_apart : EndsFrom l i s i → pairs i l ++ (block s e ∷ part i (n - i) l) ≡ union (pairs n l ++ put s e [])
    add_apart q =
        let k = pairs-cut i n l p.upto in
        union-apart (pairs i l) (part i (n - i) l) s e h (front-before l n s i c p.upto q.last) p.behind (rw k at c)
        ∙ ap (λ (t : List Block). union (t ++ put s e [])) (sym k)

    pub add-touch : (j : ℕ) → EndsFrom l i s j → (j ≡ i → ⊥) → pairs j l ++ (hull s e j i l ∷ part i (n - i) l) ≡ union (pairs n l ++ put s e [])
    add-touch j q d =
        let u = p.upto in let v = q.upto in
        let k : pairs n l ≡ pairs j l ++ (part j (i - j) l ++ part i (n - i) l) = pairs-cut j n l (omega arith) ∙ ap (λ (t : List Block). pairs j l ++ t) (from_cut j i n l v u) in
        let f = from_first j i l (omega arith) in
        union-touch (pairs j l) (part i (n - i) l) s e h (front-before l n s j c (omega arith) q.last) p.behind
        (part j (i - j) l) (block_at l j) (part (j + 1) (i - (j + 1)) l) f (part j (i - 1 - j) l) (block_to l i) (to_last j i l (omega arith))
        (rw f at q.reach).0 (p.last (omega arith)) (rw k at c)
        ∙ ap (λ (t : List Block). union (t ++ put s e [])) (sym k)
