-- Parts of lent numbers as blocks: put together, taken apart, and after stores.
use mathlib.Core.Path.{◌≡◌, refl, ◌∙◌, ap, ap₂}
use mathlib.Core.List.{List, [], ◌∷◌, ◌++◌}
use Prim.Native.Nat.{ℕ, zero, suc, ◌+◌, ◌*◌, ◌-◌, ◌≤◌, ◌<◌}
use native.Mathlib.Omega.{arith}
use lib.ListN.{length, get_or, set, length-set}
use lib.Seq.{get_or-set_same, get_or-set_other}
use Rattle.model.specs.Blocks.{Block, block}
use Rattle.block_pairs.specs.Pairs.{part, pairs}

-- one number is read alike at equal places
at_same : (l : List ℕ) (x y : ℕ) → x ≡ y → get_or l x 0 ≡ get_or l y 0
at_same l x y e = ap (λ (i : ℕ). get_or l i 0) e

-- the block at a place
abbrev pub block_at : List ℕ → ℕ → Block
block_at l i = block (get_or l (2 * i) 0) (get_or l (2 * i + 1) 0)

pub block_same : (a b c d : ℕ) → a ≡ c → b ≡ d → block a b ≡ block c d
block_same a b c d p q = λ i. record { start = p i; end = q i }

-- parts with the same numbers
pub part_same : (a b n : ℕ) (l k : List ℕ) → ((x : ℕ) → x < 2 * n → get_or l (2 * a + x) 0 ≡ get_or k (2 * b + x) 0) → part a n l ≡ part b n k
unfolding part
part_same a b zero l k h = refl
part_same a b (suc n) l k h =
    let p : get_or l (2 * a) 0 ≡ get_or k (2 * b) 0 = at_same l (2 * a) (2 * a + 0) (omega arith) ∙ h 0 (omega arith) ∙ at_same k (2 * b + 0) (2 * b) (omega arith) in
    let q : get_or l (2 * a + 1) 0 ≡ get_or k (2 * b + 1) 0 = h 1 (omega arith) in
    ap₂ {C = List Block} ◌∷◌ (block_same (get_or l (2 * a) 0) (get_or l (2 * a + 1) 0) (get_or k (2 * b) 0) (get_or k (2 * b + 1) 0) p q)
    (part_same (suc a) (suc b) n l k
    (λ x u. at_same l (2 * suc a + x) (2 * a + (x + 2)) (omega arith) ∙ h (x + 2) (omega arith) ∙ at_same k (2 * b + (x + 2)) (2 * suc b + x) (omega arith)))

part-append : (a m n : ℕ) (l : List ℕ) → part a (m + n) l ≡ part a m l ++ part (a + m) n l
unfolding part
part-append a zero n l = let e : a + 0 ≡ a = omega arith in let f : 0 + n ≡ n = omega arith in rw (e, f)
part-append a (suc m) n l =
    let e : suc m + n ≡ suc (m + n) = omega arith in
    let f : a + suc m ≡ suc a + m = omega arith in
    rw (e, f) (ap (λ (t : List Block). block_at l a ∷ t) (part-append (suc a) m n l))

-- the first m of n blocks and the others
pub part_cut : (a m n : ℕ) (l : List ℕ) → m ≤ n → part a n l ≡ part a m l ++ part (a + m) (n - m) l
part_cut a m n l h = let e : n ≡ m + (n - m) = omega arith in ap (λ (k : ℕ). part a k l) e ∙ part-append a m (n - m) l

pub pairs-cut : (m n : ℕ) (l : List ℕ) → m ≤ n → pairs n l ≡ pairs m l ++ part m (n - m) l
pairs-cut m n l h = let e : 0 + m ≡ m = omega arith in part_cut 0 m n l h ∙ ap (λ (k : ℕ). pairs m l ++ part k (n - m) l) e

-- the blocks from j to n: those to i, and those behind
pub from_cut : (j i n : ℕ) (l : List ℕ) → j ≤ i → i ≤ n → part j (n - j) l ≡ part j (i - j) l ++ part i (n - i) l
from_cut j i n l h k =
    let e : j + (i - j) ≡ i = omega arith in
    let f : (n - j) - (i - j) ≡ n - i = omega arith in
    part_cut j (i - j) (n - j) l (omega arith) ∙ ap₂ (λ (a b : ℕ). part j (i - j) l ++ part a b l) e f

-- no block
pub from-none : (n : ℕ) (l : List ℕ) → part n (n - n) l ≡ []
unfolding part
from-none n l = let e : n - n ≡ 0 = omega arith in rw e

-- the first of them
pub from_first : (j i : ℕ) (l : List ℕ) → j < i → part j (i - j) l ≡ block_at l j ∷ part (j + 1) (i - (j + 1)) l
unfolding part
from_first j i l h =
    let e : i - j ≡ suc (i - (j + 1)) = omega arith in
    let f : suc j ≡ j + 1 = omega arith in
    ap (λ (k : ℕ). part j k l) e ∙ ap (λ (k : ℕ). block_at l j ∷ part k (i - (j + 1)) l) f

-- the block in front of i, by the places of its numbers
abbrev pub block_to : List ℕ → ℕ → Block
block_to l i = block (get_or l (2 * i - 2) 0) (get_or l (2 * i - 1) 0)

block_back : (l : List ℕ) (i : ℕ) → 0 < i → block_at l (i - 1) ≡ block_to l i
block_back l i h =
    block_same (get_or l (2 * (i - 1)) 0) (get_or l (2 * (i - 1) + 1) 0) (get_or l (2 * i - 2) 0) (get_or l (2 * i - 1) 0)
    (at_same l (2 * (i - 1)) (2 * i - 2) (omega arith)) (at_same l (2 * (i - 1) + 1) (2 * i - 1) (omega arith))

-- one block more in front
pub from_back : (i n : ℕ) (l : List ℕ) → 0 < i → i ≤ n → part (i - 1) (n - (i - 1)) l ≡ block_to l i ∷ part i (n - i) l
from_back i n l h k =
    let e : (i - 1) + 1 ≡ i = omega arith in
    from_first (i - 1) n l (omega arith) ∙ ap₂ {C = List Block} (λ (b : Block) (t : List Block). b ∷ t) (block_back l i h) (ap (λ (m : ℕ). part m (n - m) l) e)

-- the last of them
pub to_last : (j i : ℕ) (l : List ℕ) → j < i → part j (i - j) l ≡ part j (i - 1 - j) l ++ (block_to l i ∷ [])
to_last j i l h =
    from_cut j (i - 1) i l (omega arith) (omega arith)
    ∙ ap (λ (t : List Block). part j (i - 1 - j) l ++ t) (from_back i i l (omega arith) (omega arith) ∙ ap (λ (t : List Block). block_to l i ∷ t) (from-none i l))

pub pairs-last : (i : ℕ) (l : List ℕ) → 0 < i → pairs i l ≡ pairs (i - 1) l ++ (block_to l i ∷ [])
pairs-last i l h =
    let e : i - 0 ≡ i = omega arith in let f : i - 1 - 0 ≡ i - 1 = omega arith in
    rw (e, f) at (to_last 0 i l h)

-- ---- stores

-- two numbers stored at block i
abbrev pub stored : List ℕ → ℕ → ℕ → ℕ → List ℕ
stored l i s e = set (set l (2 * i) s) (2 * i + 1) e

pub stored-long : (l : List ℕ) (i s e : ℕ) → length (stored l i s e) ≡ length l
stored-long l i s e = length-set (set l (2 * i) s) (2 * i + 1) e ∙ length-set l (2 * i) s

-- a number at another place stays
stored_other : (l : List ℕ) (i s e x : ℕ) → (x ≡ 2 * i → ⊥) → (x ≡ 2 * i + 1 → ⊥) → get_or (stored l i s e) x 0 ≡ get_or l x 0
stored_other l i s e x p q = get_or-set_other (set l (2 * i) s) (2 * i + 1) x e 0 q ∙ get_or-set_other l (2 * i) x s 0 p

-- the block itself
pub stored_at : (l : List ℕ) (i s e : ℕ) → 2 * i + 2 ≤ length l → block_at (stored l i s e) i ≡ block s e
stored_at l i s e h =
    block_same (get_or (stored l i s e) (2 * i) 0) (get_or (stored l i s e) (2 * i + 1) 0) s e
    (get_or-set_other (set l (2 * i) s) (2 * i + 1) (2 * i) e 0 (λ p. omega arith) ∙ get_or-set_same l (2 * i) s 0 (omega arith))
    (get_or-set_same (set l (2 * i) s) (2 * i + 1) e 0 (omega (arith, length-set l (2 * i) s)))

-- blocks in front of it and behind it
pub stored-front : (l : List ℕ) (i s e n : ℕ) → n ≤ i → pairs n (stored l i s e) ≡ pairs n l
stored-front l i s e n h = part_same 0 0 n (stored l i s e) l (λ x u. stored_other l i s e (2 * 0 + x) (λ p. omega arith) (λ p. omega arith))

pub stored-rest : (l : List ℕ) (i s e a n : ℕ) → i < a → part a n (stored l i s e) ≡ part a n l
stored-rest l i s e a n h = part_same a a n (stored l i s e) l (λ x u. stored_other l i s e (2 * a + x) (λ p. omega arith) (λ p. omega arith))

-- a block stored behind the others
pub stored-push : (l : List ℕ) (n s e : ℕ) → 2 * n + 2 ≤ length l → pairs (n + 1) (stored l n s e) ≡ pairs n l ++ (block s e ∷ [])
stored-push l n s e h =
    let f : (n + 1) - n ≡ (n + 1) - n = refl in
    let g : (n + 1) ≡ (n + 1) = refl in
    pairs-cut n (n + 1) (stored l n s e) (omega arith)
    ∙ ap₂ (λ (a b : List Block). a ++ b) (stored-front l n s e n (omega arith))
    (from_first n (n + 1) (stored l n s e) (omega arith) ∙ ap₂ {C = List Block} (λ (b : Block) (t : List Block). b ∷ t) (stored_at l n s e h) (from-none (n + 1) (stored l n s e)))
