-- Blocks as distances from an instant at or before them: `union`, `subtract` and the sum keep in step. And unions of unions. Assumes nothing.
use mathlib.Core.Path.{◌≡◌, refl, sym, ◌∙◌, ap, ap₂}
use mathlib.Core.List.{List, [], ◌∷◌, ◌++◌, map-append, append_assoc}
use mathlib.Core.Logic.{inl, inr, ⊎_elim}
use Prim.Native.Nat.{ℕ, ◌+◌, ◌-◌, min, max}
use native.Mathlib.Omega.{arith}
use borrow.Author.Tests.{ltb-true}
use lib.Dec.{ltb}
use Rattle.model.specs.Blocks.{Block, block, clipped, union, subtract, total}
use Rattle.model.specs.Walk.{onward}
use Rattle.laws_base.specs.Test.{by-test}
use Rattle.laws_blocks.specs.Members.{NonEmpty, From, append-in, append-nonempty, chain-nonempty, union-in, union-normal, union-same}
use Rattle.laws_blocks.specs.Move.{moves, union-moved, subtract-moved, total-moved}

-- ---- unions of unions

-- what was made one before the others were added
pub union-onto : (a b : List Block) → NonEmpty a → NonEmpty b → union (union a ++ b) ≡ union (a ++ b)
union-onto a b m n =
    union-same (union a ++ b) (a ++ b) (append-nonempty (union a) b (chain-nonempty 0 (union a) (union-normal a m)) n) (append-nonempty a b m n)
    (λ t.
    let u = append-in t (union a) b in let v = append-in t a b in let w = union-in t a in (
      λ i. v.1 (⊎_elim (λ x. inl (w.0 x)) (λ x. inr x) (u.0 i)),
      λ i. u.1 (⊎_elim (λ x. inl (w.1 x)) (λ x. inr x) (v.0 i)),
    ))

-- blocks added in two steps
pub union-steps : (a b c r : List Block) → NonEmpty a → NonEmpty b → NonEmpty c → r ≡ union (a ++ b) → union (r ++ c) ≡ union (a ++ (b ++ c))
union-steps a b c r m n o e =
    ap (λ (x : List Block). union (x ++ c)) e ∙ union-onto (a ++ b) c (append-nonempty a b m n) o ∙ ap union (append_assoc a b c)

-- ---- distances

pub onward-append : (t : ℕ) (l k : List Block) → onward t (l ++ k) ≡ onward t l ++ onward t k
unfolding onward
onward-append t l k = map-append (λ (b : Block). block (b.start - t) (b.end - t)) l k

pub onward-nonempty : (t : ℕ) (l : List Block) → NonEmpty l → From t l → NonEmpty (onward t l)
unfolding onward
onward-nonempty t [] n f = tt
onward-nonempty t (b ∷ l) n f = let p = n.0 in let q = f.0 in (omega arith, onward-nonempty t l n.1 f.1)

-- moved back to where they were
back-again : (t : ℕ) (l : List Block) → NonEmpty l → From t l → moves t (onward t l) ≡ l
unfolding onward moves
back-again t [] n f = refl
back-again t (b ∷ l) n f =
    let p = n.0 in let q = f.0 in
    let u : (b.start - t) + t ≡ b.start = omega arith in let v : (b.end - t) + t ≡ b.end = omega arith in
    ap₂ {C = List Block} (λ (x : Block) (y : List Block). x ∷ y) (λ i. record { start = u i; end = v i }) (back-again t l n.1 f.1)

-- and on again
on-again : (t : ℕ) (l : List Block) → onward t (moves t l) ≡ l
unfolding onward moves
on-again t [] = refl
on-again t (b ∷ l) =
    let u : (b.start + t) - t ≡ b.start = omega arith in let v : (b.end + t) - t ≡ b.end = omega arith in
    ap₂ {C = List Block} (λ (x : Block) (y : List Block). x ∷ y) (λ i. record { start = u i; end = v i }) (on-again t l)

pub union-onward : (t : ℕ) (l : List Block) → NonEmpty l → From t l → union (onward t l) ≡ onward t (union l)
union-onward t l n f =
    sym (on-again t (union (onward t l))) ∙ ap (onward t) (sym (union-moved t (onward t l))) ∙ ap (λ (x : List Block). onward t (union x)) (back-again t l n f)

pub subtract-onward : (t : ℕ) (l k : List Block) → NonEmpty l → From t l → NonEmpty k → From t k → subtract (onward t l) (onward t k) ≡ onward t (subtract l k)
subtract-onward t l k n f m g =
    sym (on-again t (subtract (onward t l) (onward t k))) ∙ ap (onward t) (sym (subtract-moved t (onward t l) (onward t k)))
    ∙ ap₂ (λ (x y : List Block). onward t (subtract x y)) (back-again t l n f) (back-again t k m g)

pub total-onward : (t : ℕ) (l : List Block) → NonEmpty l → From t l → total (onward t l) ≡ total l
total-onward t l n f = sym (total-moved t (onward t l)) ∙ ap total (back-again t l n f)

-- ---- lists of non-empty blocks from t on

pub record Apart (t : ℕ) (l : List Block) : Type 0 where
  pub full : NonEmpty l
  pub from : From t l

pub from-append : (t : ℕ) (l k : List Block) → From t l → From t k → From t (l ++ k)
from-append t [] k f g = g
from-append t (b ∷ l) k f g = (f.0, from-append t l k f.1 g)

pub apart_none : (t : ℕ) → Apart t []
apart_none t = record { full = tt; from = tt }

pub apart-both : (t : ℕ) (l k : List Block) → Apart t l → Apart t k → Apart t (l ++ k)
apart-both t l k p q = record { full = append-nonempty l k p.full q.full; from = from-append t l k p.from q.from }

pub apart-onward : (t : ℕ) (l : List Block) → Apart t l → NonEmpty (onward t l)
apart-onward t l p = onward-nonempty t l p.full p.from

pub apart-clipped : (lo hi s e : ℕ) → Apart lo (clipped lo hi s e)
unfolding clipped
apart-clipped lo hi s e =
    by-test (ltb (max s lo) (min e hi))
    (λ q. rw q (record { full = (ltb-true (max s lo) (min e hi) q, tt); from = (omega arith, tt) }))
    (λ q. rw q (record { full = tt; from = tt }))
