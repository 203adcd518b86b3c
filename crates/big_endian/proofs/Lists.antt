-- The numbers of specs/Be.antt, which are read at an index, are those of the crate `model`, which are read from the front of what is left of a list.
use mathlib.Core.Path.{◌≡◌, refl, sym, ap, ◌∙◌}
use mathlib.Core.Bool.{Bool}
use mathlib.Core.List.{List, [], ◌∷◌, ◌++◌}
use Prim.Native.Nat.{ℕ, zero, suc, suc-le-suc, ◌+◌, ◌*◌, ◌≤◌, ◌<◌}
use native.Mathlib.Nat.{le_of_suc-le-suc, not-suc-le-zero, mul-zero, mul-suc, add_comm}
use native.Mathlib.Numerals.{add-one}
use native.Mathlib.Omega.{arith}
use lib.ListN.{length, get_or, take, drop}
use lib.Seq.{drop-cons, drop-drop, take-add}
use Rattle.model.specs.Bytes.{number_from, be, words, pieces}
use Rattle.model.specs.Basic.{all}
use Rattle.laws_base.specs.Test.{by-test}
use Rattle.big_endian.specs.Be.{be16, be32, be64}
use Rattle.big_endian.specs.Walk.{all_from}

-- one byte more
number_more : (s : List ℕ) (i v n : ℕ) → i < length s → number_from v (take (suc n) (drop i s)) ≡ number_from (v * 256 + get_or s i 0) (take n (drop (i + 1) s))
unfolding number_from
number_more s i v n h = rw (add-one i, drop-cons s i 0 h)

number-done : (s : List ℕ) (i v : ℕ) → number_from v (take 0 (drop i s)) ≡ v
unfolding number_from
number-done s i v = refl

number-2 : (s : List ℕ) (i v : ℕ) → i + 2 ≤ length s → number_from v (take 2 (drop i s)) ≡ (v * 256 + get_or s i 0) * 256 + get_or s (i + 1) 0
number-2 s i v h =
    rw (number_more s i v 1 (omega arith), number_more s (i + 1) (v * 256 + get_or s i 0) 0 (omega arith), number-done)

-- a number in two parts
number-join : (v : ℕ) (a b : List ℕ) → number_from v (a ++ b) ≡ number_from (number_from v a) b
unfolding number_from
number-join v [] b = refl
number-join v (x ∷ a) b = number-join (v * 256 + x) a b

number-parts : (s : List ℕ) (i v m n : ℕ) →
    number_from v (take (m + n) (drop i s)) ≡ number_from (number_from v (take m (drop i s))) (take n (drop (i + m) s))
number-parts s i v m n = rw (take-add, drop-drop, number-join)

number-4 : (s : List ℕ) (i v : ℕ) → i + 4 ≤ length s → number_from v (take 4 (drop i s)) ≡ v * 4294967296 + be32 s i
unfolding be32
number-4 s i v h =
    let a : number_from v (take 2 (drop i s)) ≡ (v * 256 + get_or s i 0) * 256 + get_or s (i + 1) 0 = number-2 s i v (omega arith) in
    let m = number_from v (take 2 (drop i s)) in
    let b : number_from m (take 2 (drop (i + 2) s)) ≡ (m * 256 + get_or s (i + 2) 0) * 256 + get_or s (i + 2 + 1) 0 = number-2 s (i + 2) m (omega arith) in
    let c : get_or s (i + 2 + 1) 0 ≡ get_or s (i + 3) 0 = ap (λ (k : ℕ). get_or s k 0) (omega arith) in
    number-parts s i v 2 2 ∙ omega arith

-- where the number lies inside
pub at-2 : (s : List ℕ) (i : ℕ) → i + 2 ≤ length s → be16 s i ≡ be 2 (drop i s)
unfolding be16
at-2 s i h = omega (arith, number-2 s i 0 h)

pub at-4 : (s : List ℕ) (i : ℕ) → i + 4 ≤ length s → be32 s i ≡ be 4 (drop i s)
at-4 s i h = omega (arith, number-4 s i 0 h)

pub at_8 : (s : List ℕ) (i : ℕ) → i + 8 ≤ length s → be64 s i ≡ be 8 (drop i s)
unfolding be64
at_8 s i h =
    let a : be 4 (drop i s) ≡ 0 * 4294967296 + be32 s i = number-4 s i 0 (omega arith) in
    let m = be 4 (drop i s) in
    let b : number_from m (take 4 (drop (i + 4) s)) ≡ m * 4294967296 + be32 s (i + 4) = number-4 s (i + 4) m (omega arith) in
    sym (number-parts s i 0 4 4 ∙ omega arith)

-- the i-th of n numbers of w bytes, and of n pieces
pub word_at : (w n : ℕ) (l : List ℕ) (i : ℕ) → i < n → get_or (words w n l) i 0 ≡ be w (drop (w * i) l)
unfolding words
word_at w zero l i h = absurd (not-suc-le-zero h)
word_at w (suc n) l zero h = rw mul-zero
word_at w (suc n) l (suc i) h = word_at w n (drop w l) i (le_of_suc-le-suc h) ∙ rw (drop-drop, mul-suc, add_comm)

pub piece-at : (w n : ℕ) (l : List ℕ) (i : ℕ) → i < n → get_or (pieces w n l) i [] ≡ take w (drop (w * i) l)
unfolding pieces
piece-at w zero l i h = absurd (not-suc-le-zero h)
piece-at w (suc n) l zero h = rw mul-zero
piece-at w (suc n) l (suc i) h = piece-at w n (drop w l) i (le_of_suc-le-suc h) ∙ rw (drop-drop, mul-suc, add_comm)

pub words-length : (w n : ℕ) (l : List ℕ) → length (words w n l) ≡ n
unfolding words
words-length w zero l = refl
words-length w (suc n) l = ap suc (words-length w n (drop w l))

pub pieces-length : (w n : ℕ) (l : List ℕ) → length (pieces w n l) ≡ n
unfolding pieces
pieces-length w zero l = refl
pieces-length w (suc n) l = ap suc (pieces-length w n (drop w l))

-- a test of each element of a list, as a test of each index
pub all-index : {A : Type 0} (t : A → Bool) (d : A) (f : ℕ → Bool) (l : List A) (i : ℕ) →
    ((j : ℕ) → j < length l → f (i + j) ≡ t (get_or l j d)) → all_from f i (length l) ≡ all t l
unfolding all all_from
all-index t d f [] i h = refl
all-index t d f (a ∷ l) i h =
    let e : f i ≡ t a = ap f (omega arith) ∙ h 0 (omega arith) in
    let r : all_from f (i + 1) (length l) ≡ all t l =
    all-index t d f l (i + 1) (λ j k. ap f (omega arith) ∙ h (suc j) (suc-le-suc k)) in
    rw (e, r) (by-test (t a) (λ q. rw q) (λ q. rw q))
