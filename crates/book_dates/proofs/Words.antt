-- The loops over the numbers that the dates are written as: one step of each, and its end.
use Rattle.std.specs.Prelude.{if◌then◌else◌}
use mathlib.Core.Path.{◌≡◌, refl, sym, ap, ◌∙◌}
use mathlib.Core.Bool.{Bool, true, false, not}
use mathlib.Core.List.{List, [], ◌∷◌}
use Prim.Native.Nat.{ℕ, zero, suc, ◌+◌, ◌*◌, ◌-◌, ◌≤◌, ◌<◌}
use native.Mathlib.Omega.{arith}
use lib.Dec.{ltb, eqb}
use lib.ListN.{length, get_or, set, length-set}
use Rattle.std.specs.List.{list_any, range_with_len}
use lib.Seq.{get_or-set_same, get_or-set_other}
use borrow.Author.Tests.{lt-ltb, le-ltb, ltb-true, ne_eqb, eqb-true, eqb-false, not-true, not-false}
use Rattle.big_endian.specs.Be.{be32}
use Rattle.laws_base.specs.Test.{by-test, clash}
use Rattle.model.specs.Basic.{any, among, distinct}
use Rattle.book_dates.specs.Words.{words_at, rises, mark_count, slot_of}

words_more : (b : List ℕ) (p n : ℕ) → 0 < n → words_at b p n ≡ be32 b p ∷ words_at b (p + 4) (n - 1)
unfolding words_at
words_more b p zero h = absurd (omega arith)
words_more b p (suc n) h = let e : suc n - 1 ≡ n = omega arith in rw e

length-words : (b : List ℕ) (p n : ℕ) → length (words_at b p n) ≡ n
unfolding words_at
length-words b p zero = refl
length-words b p (suc n) = ap suc (length-words b (p + 4) n)

-- ---- numbers in ascending order

rises-cons : (m x : ℕ) (l : List ℕ) → rises m (x ∷ l) ≡ (if ltb m x then rises x l else false)
unfolding rises
rises-cons m x l = refl

-- the numbers from the i-th on
words-from : (b : List ℕ) (p : ℕ) {i n : ℕ} → i < n → words_at b (p + 4 * i) (n - i) ≡ be32 b (p + 4 * i) ∷ words_at b (p + 4 * (i + 1)) (n - (i + 1))
words-from b p {i} {n} h =
    let e : p + 4 * i + 4 ≡ p + 4 * (i + 1) = omega arith in
    let f : n - i - 1 ≡ n - (i + 1) = omega arith in
    words_more b (p + 4 * i) (n - i) (omega arith) ∙ rw (e, f)

module _ (b : List ℕ) (p m : ℕ) {i n x : ℕ} {r : Bool} (h : i < n) (inv : rises m (words_at b (p + 4 * i) (n - i)) ≡ r) (ex : x ≡ be32 b (p + 4 * i)) where
  rises-more : (if ltb m x then rises x (words_at b (p + 4 * (i + 1)) (n - (i + 1))) else false) ≡ r
  rises-more =
      rw ex
      (sym (rises-cons m (be32 b (p + 4 * i)) (words_at b (p + 4 * (i + 1)) (n - (i + 1)))) ∙ ap (λ (l : List ℕ). rises m l) (sym (words-from b p h)) ∙ inv)

  pub rises-no : x ≤ m → false ≡ r
  rises-no q = rw (le-ltb m x q) at rises-more

  pub rises-yes : m < x → rises x (words_at b (p + 4 * (i + 1)) (n - (i + 1))) ≡ r
  rises-yes q = rw (lt-ltb m x q) at rises-more

pub rises-end : (b : List ℕ) (p m : ℕ) {i n : ℕ} {r : Bool} → n ≤ i → rises m (words_at b (p + 4 * i) (n - i)) ≡ r → true ≡ r
unfolding words_at rises
rises-end b p m {i} {n} h inv = let e : n - i ≡ 0 = omega arith in (rw e at inv)

-- what lies below them all is not among them
below_all : (m x : ℕ) (l : List ℕ) → rises m l ≡ true → x ≤ m → among l x ≡ false
unfolding rises any
below_all m x [] e h = refl
below_all m x (y ∷ l) e h =
    by-test (ltb m y)
    (λ q. let k : m < y = ltb-true m y q in
    rw (ne_eqb x y (λ z. omega arith)) (below_all y x l (rw q at e) (omega arith)))
    (λ q. clash false (rw q at e) refl)

-- so they are all different
rises-distinct : (m : ℕ) (l : List ℕ) → rises m l ≡ true → length (distinct l) ≡ length l
unfolding rises distinct
rises-distinct m [] e = refl
rises-distinct m (x ∷ l) e =
    by-test (ltb m x)
    (λ q. let r : rises x l ≡ true = rw q at e in
    rw (below_all x x l r (omega arith)) (ap suc (rises-distinct x l r)))
    (λ q. clash false (rw q at e) refl)

pub all-differ : (b : List ℕ) (p n : ℕ) {r : Bool} → r ≡ rises 0 (words_at b p n) → r ≡ true → n ≡ length (distinct (words_at b p n))
all-differ b p n e q = sym (rises-distinct 0 (words_at b p n) (sym e ∙ q) ∙ length-words b p n)

-- ---- a number among them

any-cons : (d x : ℕ) (l : List ℕ) → among (x ∷ l) d ≡ (if eqb d x then true else among l d)
unfolding any
any-cons d x l = refl

among-range : (b : List ℕ) (p d n i : ℕ) → list_any (λ k. eqb d (be32 b (p + 4 * k))) (range_with_len i n) ≡ among (words_at b (p + 4 * i) n) d
unfolding words_at any
among-range b p d zero i = refl
among-range b p d (suc n) i =
    let e : p + 4 * (i + 1) ≡ p + 4 * i + 4 = omega arith in
    let r : list_any (λ k. eqb d (be32 b (p + 4 * k))) (range_with_len (i + 1) n) ≡ among (words_at b (p + 4 * i + 4) n) d =
    among-range b p d n (i + 1) ∙ ap (λ (m : ℕ). among (words_at b m n) d) e in
    by-test (eqb d (be32 b (p + 4 * i))) (λ q. rw q) (λ q. rw (q, r))

pub among-any : (b : List ℕ) (p d n : ℕ) → list_any (λ k. eqb d (be32 b (p + 4 * k))) (range_with_len 0 n) ≡ among (words_at b p n) d
among-any b p d n = let e : p + 4 * 0 ≡ p = omega arith in among-range b p d n 0 ∙ ap (λ (m : ℕ). among (words_at b m n) d) e

-- ---- marks

-- `left` of the n numbers are still to be looked at. Those behind them are marked, and `count` different ones
pub record Marking (b : List ℕ) (p n : ℕ) (marks : List ℕ) (left count : ℕ) : Type 0 where
  pub all : left ≤ n
  pub few : count ≤ n - left
  pub long : length marks ≡ mark_count
  pub counted : count ≡ length (distinct (words_at b (p + 4 * left) (n - left)))
  pub marked : (w : ℕ) → among (words_at b (p + 4 * left) (n - left)) w ≡ true → get_or marks (slot_of w) 0 ≡ 1

pub marking-start : (b : List ℕ) (p n : ℕ) (marks : List ℕ) → length marks ≡ mark_count → Marking b p n marks n 0
unfolding words_at distinct any
marking-start b p n marks h =
    let z : n - n ≡ 0 = omega arith in
    record { all = omega arith; few = omega arith; long = h; counted = rw z; marked = λ w e. clash false (rw z at e) refl }

distinct_cons : (x : ℕ) (l : List ℕ) → length (distinct (x ∷ l)) ≡ (if among l x then 0 else 1) + length (distinct l)
unfolding distinct
distinct_cons x l = by-test (among l x) (λ e. rw e (omega arith)) (λ e. rw e (omega arith))

-- a mark more
set-marked : (l : List ℕ) (k j : ℕ) → k < length l → get_or l j 0 ≡ 1 → get_or (set l k 1) j 0 ≡ 1
set-marked l k j h e =
    by-test (eqb j k)
    (λ q. let z : j ≡ k = eqb-true j k q in rw z (get_or-set_same l k 1 0 h))
    (λ q. get_or-set_other l k j 1 0 (λ z. eqb-false j k q z) ∙ e)

module _ (b : List ℕ) (p n : ℕ) (marks : List ℕ) {left count x k : ℕ} (m : Marking b p n marks left count) (h : 0 < left) (ex : x ≡ be32 b (p + 4 * (left - 1))) (ek : k ≡ slot_of x) where
  abbrev rest : List ℕ
  rest = words_at b (p + 4 * left) (n - left)

  words-one : words_at b (p + 4 * (left - 1)) (n - (left - 1)) ≡ x ∷ rest
  words-one =
      let e : left - 1 + 1 ≡ left = omega arith in
      let l : left - 1 < n = omega (arith, m.all) in
      words-from b p l ∙ rw (ex, e)

  module _ {r : Bool} (hk : k < mark_count) (er : r ≡ not (among (words_at b (p + 4 * (left - 1) + 4) (n - 1 - (left - 1))) x)) where
    told : r ≡ not (among rest x)
    told =
        let e : p + 4 * (left - 1) + 4 ≡ p + 4 * left = omega arith in
        let f : n - 1 - (left - 1) ≡ n - left = omega arith in
        er ∙ rw (e, f)

    marked_more : (w : ℕ) → among (words_at b (p + 4 * (left - 1)) (n - (left - 1))) w ≡ true → get_or (set marks k 1) (slot_of w) 0 ≡ 1
    marked_more w e =
        by-test (eqb w x)
        (λ q. let z : w ≡ x = eqb-true w x q in rw (z, ← ek) (get_or-set_same marks k 1 0 (omega (arith, m.long))))
        (λ q. let f : among rest w ≡ true = rw q at (sym (any-cons w x rest) ∙ rw words-one at e) in
        set-marked marks k (slot_of w) (omega (arith, m.long)) (m.marked w f))

    one_more : length (distinct (words_at b (p + 4 * (left - 1)) (n - (left - 1)))) ≡ (if among rest x then 0 else 1) + length (distinct rest)
    one_more = rw words-one (distinct_cons x rest)

    pub marking-new : r ≡ true → Marking b p n (set marks k 1) (left - 1) (count + 1)
    marking-new q =
        let f : among rest x ≡ false = not-true (among rest x) (sym told ∙ q) in
        record {
          all = omega (arith, m.all);
          few = omega (arith, m.few, m.all);
          long = length-set marks k 1 ∙ m.long;
          counted = omega (arith, m.counted, rw f at one_more);
          marked = marked_more;
        }

    pub marking-again : r ≡ false → Marking b p n (set marks k 1) (left - 1) count
    marking-again q =
        let f : among rest x ≡ true = not-false (among rest x) (sym told ∙ q) in
        record {
          all = omega (arith, m.all);
          few = omega (arith, m.few, m.all);
          long = length-set marks k 1 ∙ m.long;
          counted = omega (arith, m.counted, rw f at one_more);
          marked = marked_more;
        }

pub marking-end : (b : List ℕ) (p n : ℕ) (marks : List ℕ) {left count : ℕ} → Marking b p n marks left count → left ≤ 0 → (count ≡ length (distinct (words_at b p n))) × (count ≤ n)
marking-end b p n marks {left} m h =
    let a : p + 4 * left ≡ p = omega arith in
    let d : n - left ≡ n = omega arith in
    (m.counted ∙ rw (a, d), omega (arith, m.few))
