-- Filling lent memory with the blocks of dates and of records: what a turn of each loop keeps. Assumes nothing.
use mathlib.Core.Path.{◌≡◌, refl, sym, ◌∙◌, ap, ap₂}
use mathlib.Core.Bool.{Bool, true, false}
use mathlib.Core.List.{List, [], ◌∷◌, ◌++◌, map, append-nil}
use Prim.Native.Nat.{ℕ, ◌+◌, ◌*◌, ◌-◌, ◌≤◌, ◌<◌, min, max}
use native.Mathlib.Nat.{mul-suc, mul-le-mul_left}
use native.Mathlib.Numerals.{add-one}
use native.Mathlib.Omega.{arith}
use borrow.Author.Tests.{lt-ltb, le-ltb, ltb-true, ltb-false}
use lib.Dec.{ltb}
use lib.ListN.{length, take, drop, get_or}
use Rattle.model.specs.Basic.{filter, run, joined}
use Rattle.model.specs.Blocks.{Block, put, clipped, union}
use Rattle.model.specs.Walk.{onward}
use Rattle.laws_base.specs.Test.{by-test}
use Rattle.laws_blocks.specs.Members.{NonEmpty, Normal, append-nonempty, chain-nonempty, union-normal, union-again}
use Rattle.instant.specs.Instant.{nanos}
use Rattle.block.specs.declared.Block.{Block as Item}
use Rattle.zone_local.specs.Dates.{held}
use Rattle.window_dates.proofs.Fill.{shown, dates_from, dates-whole, date-on, date-off, dates-done, rest_of, rest_more, rest_end}
use Rattle.block_pairs.specs.Pairs.{pairs}
use Rattle.window_piece.specs.Filled.{Filled, PairsReady}
use Rattle.window_piece.proofs.Laws.{Apart, apart_none, apart-both, apart-onward, union-steps, onward-append}

-- ---- one piece

-- a block as distances from an instant at or before it
pub put-onward : (t s e : ℕ) → t ≤ s → put (s - t) (e - t) [] ≡ onward t (put s e [])
unfolding onward
put-onward t s e h =
    by-test (ltb s e)
    (λ p. let q = ltb-true s e p in rw (p, lt-ltb (s - t) (e - t) (omega arith)))
    (λ p. let q = ltb-false s e p in rw (p, le-ltb (s - t) (e - t) (omega arith)))

-- nothing is added
pub filled_none : (t : ℕ) (l : List ℕ) (w : ℕ) (b : List Block) (k : ℕ) → b ≡ [] → Normal (pairs w l) → Filled t l w b k l w
unfolding onward
filled_none t l w b k e c = record { same = rw (e, append-nil (pairs w l)) (sym (union-again (pairs w l) c)); count = omega arith; long = refl }

pub piece-in : (t : ℕ) (l₀ l : List ℕ) (w r a b : ℕ) (x : Item) → t ≤ nanos x.start → a ≡ nanos x.start - t → b ≡ nanos x.end - t
    → pairs r l ≡ union (pairs w l₀ ++ put a b []) → r ≤ w + 1 → length l ≡ length l₀ → Filled t l₀ w (held x) 1 l r
unfolding held
piece-in t l₀ l w r a b x h p q e c n = record {
  same = e ∙ ap (λ (k : List Block). union (pairs w l₀ ++ k)) (ap₂ (λ (i j : ℕ). put i j []) p q ∙ put-onward t (nanos x.start) (nanos x.end) h);
  count = c;
  long = n;
}

pub piece-out : (t : ℕ) (l : List ℕ) (w : ℕ) (x : Item) → nanos x.end ≤ nanos x.start → Normal (pairs w l) → Filled t l w (held x) 1 l w
unfolding held
piece-out t l w x h c = filled_none t l w (put (nanos x.start) (nanos x.end) []) 1 (rw (le-ltb (nanos x.start) (nanos x.end) h)) c

pub span-in : (lo hi s e : ℕ) (l₀ l : List ℕ) (w r a b : ℕ) → a ≡ max s lo → b ≡ min e hi → pairs r l ≡ union (pairs w l₀ ++ put (a - lo) (b - lo) []) → r ≤ w + 1 → length l ≡ length l₀
    → Filled lo l₀ w (clipped lo hi s e) 1 l r
unfolding clipped
span-in lo hi s e l₀ l w r a b p q i c n = record {
  same = i ∙ ap (λ (k : List Block). union (pairs w l₀ ++ k)) (ap₂ (λ (x y : ℕ). put (x - lo) (y - lo) []) p q ∙ put-onward lo (max s lo) (min e hi) (omega arith));
  count = c;
  long = n;
}

pub span-out : (lo hi s e : ℕ) (l : List ℕ) (w a b : ℕ) → a ≡ max s lo → b ≡ min e hi → b ≤ a → Normal (pairs w l) → Filled lo l w (clipped lo hi s e) 1 l w
unfolding clipped
span-out lo hi s e l w a b p q h c = filled_none lo l w (put (max s lo) (min e hi) []) 1 (rw (le-ltb (max s lo) (min e hi) (omega arith))) c

-- the same blocks, from another instant or by another name
pub filled-as : (t t' : ℕ) (l₀ : List ℕ) (w : ℕ) (b b' : List Block) (k : ℕ) (l : List ℕ) (r : ℕ) → onward t b ≡ onward t' b' → Filled t l₀ w b k l r → Filled t' l₀ w b' k l r
filled-as t t' l₀ w b b' k l r e f = record { same = f.same ∙ ap (λ (x : List Block). union (pairs w l₀ ++ x)) e; count = f.count; long = f.long }

pub filled-same : (t : ℕ) (l₀ : List ℕ) (w : ℕ) (b b' : List Block) (k : ℕ) (l : List ℕ) (r : ℕ) → b ≡ b' → Filled t l₀ w b k l r → Filled t l₀ w b' k l r
filled-same t l₀ w b b' k l r e f = filled-as t t l₀ w b b' k l r (ap (onward t) e) f

-- room for fewer, and at most more
pub ready-less : (l : List ℕ) (w j k : ℕ) → j ≤ k → PairsReady l w k → PairsReady l w j
ready-less l w j k h r = let a = r.room in record { normal = r.normal; room = omega arith }

pub filled_more : (t : ℕ) (l₀ : List ℕ) (w : ℕ) (b : List Block) (j k : ℕ) (l : List ℕ) (r : ℕ) → j ≤ k → Filled t l₀ w b j l r → Filled t l₀ w b k l r
filled_more t l₀ w b j k l r h f = let a = f.count in record { same = f.same; count = omega arith; long = f.long }

-- the list stays sorted and apart
pub filled-normal : (t : ℕ) (l₀ : List ℕ) (w : ℕ) (b : List Block) (k : ℕ) (l : List ℕ) (r : ℕ) → Filled t l₀ w b k l r → Normal (pairs w l₀) → Apart t b → Normal (pairs r l)
filled-normal t l₀ w b k l r f c a =
    rw f.same (union-normal (pairs w l₀ ++ onward t b) (append-nonempty (pairs w l₀) (onward t b) (chain-nonempty 0 (pairs w l₀) c) (apart-onward t b a)))

-- ---- the dates of a rule

pub apart-shown : (t : ℕ) (on : ℕ → Bool) (f : ℕ → List Block) → ((d : ℕ) → Apart t (f d)) → (l : List ℕ) → Apart t (shown on f l)
unfolding joined filter
apart-shown t on f h [] = apart_none t
apart-shown t on f h (d ∷ l) =
    by-test (on d)
    (λ e. rw e (apart-both t (f d) (shown on f l) (h d) (apart-shown t on f h l)))
    (λ e. rw e (apart-shown t on f h l))

-- of k dates in a row, those from the i-th on are to come
pub record Dating (t : ℕ) (on : ℕ → Bool) (f : ℕ → List Block) (first k : ℕ) (l₀ : List ℕ) (w : ℕ) (l : List ℕ) (n i : ℕ) : Type 0 where
  pub same : union (pairs n l ++ onward t (shown on f (dates_from first k i))) ≡ union (pairs w l₀ ++ onward t (shown on f (run first k)))
  pub normal : Normal (pairs n l)
  pub count : n + (k - i) ≤ w + k
  pub long : length l ≡ length l₀

pub dating-starts : (t : ℕ) (on : ℕ → Bool) (f : ℕ → List Block) (first k : ℕ) (l : List ℕ) (w : ℕ) → Normal (pairs w l) → Dating t on f first k l w l w 0
dating-starts t on f first k l w c =
    record { same = ap (λ (d : List ℕ). union (pairs w l ++ onward t (shown on f d))) (dates-whole first k); normal = c; count = omega arith; long = refl }

-- a step of the sum of lists
steps : (t : ℕ) (a b c r whole : List Block) (x : List Block) → NonEmpty a → Apart t b → Apart t c → r ≡ union (a ++ onward t b) → b ++ c ≡ x
    → union (a ++ onward t x) ≡ whole → union (r ++ onward t c) ≡ whole
steps t a b c r whole x n p q e g h =
    union-steps a (onward t b) (onward t c) r n (apart-onward t b p) (apart-onward t c q) e
    ∙ ap (λ (k : List Block). union (a ++ k)) (sym (onward-append t b c) ∙ ap (onward t) g) ∙ h

module _ (t : ℕ) (on : ℕ → Bool) (f : ℕ → List Block) (fa : (d : ℕ) → Apart t (f d)) (first k : ℕ) (l₀ : List ℕ) (w : ℕ) (l : List ℕ) (n i : ℕ)
    (m : Dating t on f first k l₀ w l n i) where
  pub dating-ready : i < k → 2 * (w + k) ≤ length l₀ → PairsReady l n 1
  dating-ready h r = let a = m.count in let b = m.long in record { normal = m.normal; room = omega arith }

  pub dating-on : i < k → on (first + i) ≡ true → (l' : List ℕ) (n' : ℕ) → Filled t l n (f (first + i)) 1 l' n' → Dating t on f first k l₀ w l' n' (i + 1)
  dating-on h e l' n' g =
      let a = m.count in let b = g.count in
      record {
        same = steps t (pairs n l) (f (first + i)) (shown on f (dates_from first k (i + 1))) (pairs n' l') (union (pairs w l₀ ++ onward t (shown on f (run first k)))) (shown on f (dates_from first k i))
            (chain-nonempty 0 (pairs n l) m.normal) (fa (first + i)) (apart-shown t on f fa (dates_from first k (i + 1))) g.same
            (date-on on f first k i [] (shown on f (dates_from first k i)) refl h e (f (first + i)) refl) m.same;
        normal = filled-normal t l n (f (first + i)) 1 l' n' g m.normal (fa (first + i));
        count = omega arith;
        long = g.long ∙ m.long;
      }

  pub dating-off : i < k → on (first + i) ≡ false → Dating t on f first k l₀ w l n (i + 1)
  dating-off h e =
      let a = m.count in
      record {
        same = ap (λ (x : List Block). union (pairs n l ++ onward t x)) (date-off on f first k i [] (shown on f (dates_from first k i)) refl h e) ∙ m.same;
        normal = m.normal;
        count = omega arith;
        long = m.long;
      }

  pub dating-done : k ≤ i → Filled t l₀ w (shown on f (run first k)) k l n
  unfolding onward
  dating-done h =
      let a = m.count in
      let z : [] ≡ shown on f (dates_from first k i) = dates-done on f first k i [] (shown on f (dates_from first k i)) refl h in
      record {
        same = sym (union-again (pairs n l) m.normal) ∙ ap union (sym (append-nil (pairs n l))) ∙ ap (λ (x : List Block). union (pairs n l ++ onward t x)) z ∙ m.same;
        count = omega arith;
        long = m.long;
      }

-- ---- the records of a counted array, each of which adds at most so many blocks

most-more : (most i : ℕ) → most * (i + 1) ≡ most * i + most
most-more most i = ap (λ (x : ℕ). most * x) (add-one i) ∙ mul-suc most i

most-less : (most i k : ℕ) → i < k → most * i + most ≤ most * k
most-less most i k h = let a = most-more most i in let b = mul-le-mul_left {m = i + 1} {n = k} most (omega arith) in omega arith

module _ {A : Type 0} (t : ℕ) (g : A → List Block) (ga : (a : A) → Apart t (g a)) (most k : ℕ) (items : List A) where
  apart-joined : (l : List A) → Apart t (joined (map g l))
  unfolding joined
  apart-joined [] = apart_none t
  apart-joined (a ∷ l) = apart-both t (g a) (joined (map g l)) (ga a) (apart-joined l)

  -- the records from i on are to come
  pub record Ruling (l₀ : List ℕ) (w : ℕ) (l : List ℕ) (n i : ℕ) : Type 0 where
    pub same : union (pairs n l ++ onward t (rest_of g k items i)) ≡ union (pairs w l₀ ++ onward t (rest_of g k items 0))
    pub normal : Normal (pairs n l)
    pub count : n ≤ w + most * i
    pub upto : i ≤ k
    pub fits : k ≤ length items
    pub long : length l ≡ length l₀

  pub ruling-starts : (l : List ℕ) (w : ℕ) → Normal (pairs w l) → k ≤ length items → Ruling l w l w 0
  ruling-starts l w c h = record { same = refl; normal = c; count = omega arith; upto = omega arith; fits = h; long = refl }

  module _ (l₀ : List ℕ) (w : ℕ) (l : List ℕ) (n i : ℕ) (m : Ruling l₀ w l n i) where
    pub ruling-ready : i < k → 2 * (w + most * k) ≤ length l₀ → PairsReady l n most
    ruling-ready h r = let a = m.count in let b = m.long in let c = most-less most i k h in record { normal = m.normal; room = omega arith }

    -- the same with room for one block more
    pub ruling-roomy : i < k → 2 * (w + most * k) + 2 ≤ length l₀ → PairsReady l n (most + 1)
    ruling-roomy h r = let a = m.count in let b = m.long in let c = most-less most i k h in record { normal = m.normal; room = omega arith }

    pub ruling-turn : i < k → (x : A) (l' : List ℕ) (n' : ℕ) → Filled t l n (g (get_or items i x)) most l' n' → Ruling l₀ w l' n' (i + 1)
    ruling-turn h x l' n' f =
        let a = m.count in let b = f.count in let c = most-more most i in
        record {
          same = steps t (pairs n l) (g (get_or items i x)) (rest_of g k items (i + 1)) (pairs n' l') (union (pairs w l₀ ++ onward t (rest_of g k items 0))) (rest_of g k items i)
              (chain-nonempty 0 (pairs n l) m.normal) (ga (get_or items i x)) (apart-joined (drop (i + 1) (take k items))) f.same
              (sym (rest_more g k items i x h m.fits)) m.same;
          normal = filled-normal t l n (g (get_or items i x)) most l' n' f m.normal (ga (get_or items i x));
          count = omega arith;
          upto = omega arith;
          fits = m.fits;
          long = f.long ∙ m.long;
        }

    pub ruling-done : k ≤ i → Filled t l₀ w (joined (map g (take k items))) (most * k) l n
    unfolding onward
    ruling-done h =
        let a = m.count in let u = m.upto in
        let e : i ≡ k = omega arith in
        let c = ap (λ (x : ℕ). most * x) e in
        let z : [] ≡ rest_of g k items i = sym (ap (rest_of g k items) e ∙ rest_end g k items m.fits) in
        record {
          same = sym (union-again (pairs n l) m.normal) ∙ ap union (sym (append-nil (pairs n l))) ∙ ap (λ (x : List Block). union (pairs n l ++ onward t x)) z ∙ m.same;
          count = omega arith;
          long = m.long;
        }
