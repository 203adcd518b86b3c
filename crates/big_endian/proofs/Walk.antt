-- Laws of the definitions of specs/Walk.antt: one step of a loop, and what a test of all indices says of one.
use mathlib.Core.Path.{◌≡◌, refl, sym, subst}
use mathlib.Core.Bool.{Bool, true, false, ◌&&◌}
use Rattle.std.specs.List.{list_all, range_with_len}
use mathlib.Core.Logic.{⊎_elim}
use Prim.Native.Nat.{ℕ, zero, suc, ◌+◌, ◌-◌, ◌≤◌, ◌<◌}
use native.Mathlib.Nat.{le_of_suc-le-suc, eq-or-lt_of_le, not-suc-le-zero, add-zero}
use native.Mathlib.Numerals.{add-one}
use native.Mathlib.Omega.{arith}
use borrow.Author.Tests.{le-leb, lt-leb, le-ltb, lt-ltb, ltb-true}
use Rattle.big_endian.specs.Walk.{both, pick_n, all_from, count_below, up_to, rises_at, span_from}

all_more : (t : ℕ → Bool) (i n : ℕ) → i < n → all_from t i (n - i) ≡ both (t i) (all_from t (i + 1) (n - (i + 1)))
unfolding all_from
all_more t i n h =
    let e : n - i ≡ suc (n - (i + 1)) = omega arith in
    rw e

module _ (t : ℕ → Bool) {i n : ℕ} {r d : Bool} (h : i < n) (inv : all_from t i (n - i) ≡ d) (e : r ≡ t i) where
  pub all-no : r ≡ false → false ≡ d
  all-no q = cc (all_more t i n h)

  pub all_yes : r ≡ true → all_from t (i + 1) (n - (i + 1)) ≡ d
  all_yes q = cc (all_more t i n h)

pub all_end : (t : ℕ → Bool) {i n : ℕ} {d : Bool} → n ≤ i → all_from t i (n - i) ≡ d → true ≡ d
unfolding all_from
all_end t {i} {n} h inv =
    let e : n - i ≡ 0 = omega arith in
    (rw e at inv)

both-split : (a b : Bool) → both a b ≡ true → (a ≡ true) × (b ≡ true)
both-split true b e = (refl, e)
both-split false b e = (e, sym (never b e))
  where
    never : (b : Bool) → false ≡ true → true ≡ b
    never true q = refl
    never false q = sym q

-- what a test of all indices says of one
all-at-from : (t : ℕ → Bool) (k i j : ℕ) → all_from t i k ≡ true → j < k → t (i + j) ≡ true
unfolding all_from
all-at-from t zero i j e h = absurd (not-suc-le-zero h)
all-at-from t (suc k) i zero e h = rw add-zero (both-split (t i) (all_from t (i + 1) k) e).0
all-at-from t (suc k) i (suc j) e h =
    let q : (i + 1) + j ≡ i + suc j = omega arith in
    subst (λ (m : ℕ). t m ≡ true) q
    (all-at-from t k (i + 1) j (both-split (t i) (all_from t (i + 1) k) e).1 (le_of_suc-le-suc h))

pub all-at : (t : ℕ → Bool) (n j : ℕ) → all_from t 0 n ≡ true → j < n → t j ≡ true
all-at t n j e h =
    let q : 0 + j ≡ j = omega arith in
    subst (λ (m : ℕ). t m ≡ true) q (all-at-from t n 0 j e h)

pub count-le : (t : ℕ → Bool) (n : ℕ) → count_below t n ≤ n
unfolding count_below
count-le t zero = omega arith
count-le t (suc k) = go (t k) (count-le t k)
  where
    go : (b : Bool) → count_below t k ≤ k → count_below t k + pick_n b 1 0 ≤ suc k
    go true h = omega arith
    go false h = omega arith

-- ---- counting the keys that are at most u, in a table whose keys rise
module _ (key : ℕ → ℕ) where
  abbrev pub Rises : ℕ → Type 0
  Rises n = (i j : ℕ) → i ≤ j → j < n → key i ≤ key j

  rises-from : (n : ℕ) → ((i : ℕ) → i + 1 < n → key i ≤ key (i + 1)) → Rises n
  rises-from n s i zero h l = subst (λ (m : ℕ). key i ≤ key m) {x = i} (omega arith) (omega arith)
  rises-from n s i (suc j) h l = ⊎_elim (λ e. subst (λ (m : ℕ). key i ≤ key m) e (omega arith))
      (λ lt. let a : key i ≤ key j = rises-from n s i j (le_of_suc-le-suc lt) (omega arith) in
      let b : key j ≤ key (j + 1) = s j (omega arith) in
      subst (λ (m : ℕ). key i ≤ key m) (add-one j) (omega arith))
      (eq-or-lt_of_le h)

  -- where the last of the keys is at most u, all count
  count-full : (u n : ℕ) → ((k : ℕ) → k < n → key k ≤ u) → count_below (up_to key u) n ≡ n
  unfolding count_below
  count-full u zero h = refl
  count-full u (suc k) h =
      let i : count_below (up_to key u) k ≡ k = count-full u k (λ j l. h j (omega arith)) in
      let l : key k ≤ u = h k (omega arith) in
      rw (le-leb (key k) u l) (omega arith)

  module _ (u : ℕ) where
    pub count-in : (n m : ℕ) → Rises n → m < n → key m ≤ u → m < count_below (up_to key u) n
    unfolding count_below
    count-in zero m s h l = absurd (not-suc-le-zero h)
    count-in (suc k) m s h l = ⊎_elim
        (λ e. let q : key k ≤ u = subst (λ (j : ℕ). key j ≤ u) e l in
        let f : count_below (up_to key u) k ≡ k = count-full u k (λ j lj. let r : key j ≤ key k = s j k (omega arith) (omega arith) in omega arith) in
        rw (le-leb (key k) u q) (omega arith))
        (λ lt. let r : m < count_below (up_to key u) k = count-in k m (λ i j a b. s i j a (omega arith)) lt l in omega arith)
        (eq-or-lt_of_le (le_of_suc-le-suc h))

    pub count-out : (n m : ℕ) → Rises n → m < n → u < key m → count_below (up_to key u) n ≤ m
    unfolding count_below
    count-out zero m s h l = absurd (not-suc-le-zero h)
    count-out (suc k) m s h l =
        let r : key m ≤ key k = s m k (le_of_suc-le-suc h) (omega arith) in
        rw (lt-leb (key k) u (omega arith))
        (⊎_elim
        (λ e. let b : count_below (up_to key u) k ≤ k = count-le (up_to key u) k in omega arith)
        (λ lt. let i : count_below (up_to key u) k ≤ m = count-out k m (λ i j a b. s i j a (omega arith)) lt l in omega arith)
        (eq-or-lt_of_le (le_of_suc-le-suc h)))

-- a table whose every key is below the next rises
pub rises : (key : ℕ → ℕ) (n : ℕ) → all_from (rises_at key) 0 (n - 1) ≡ true → Rises key n
rises key n e = rises-from key n (λ i h.
    let l : key i < key (i + 1) = ltb-true (key i) (key (i + 1)) (all-at (rises_at key) (n - 1) i e (omega arith)) in
    omega arith)

pub all_none : (t : ℕ → Bool) {n : ℕ} → n ≡ 0 → true ≡ all_from t 0 (n - 1)
unfolding all_from
all_none t h = rw h

-- one step of a loop that checks that a table rises
module _ (key : ℕ → ℕ) {i n x y : ℕ} {d : Bool} (h : i < n) (inv : all_from (rises_at key) i (n - i) ≡ d) (ex : x ≡ key i) (ey : y ≡ key (i + 1)) where
  pub rise-no : y ≤ x → false ≡ d
  rise-no l = all-no (rises_at key) h inv refl (le-ltb (key i) (key (i + 1)) (omega arith))

  pub rise-yes : x < y → all_from (rises_at key) (i + 1) (n - (i + 1)) ≡ d
  rise-yes l = all_yes (rises_at key) h inv refl (lt-ltb (key i) (key (i + 1)) (omega arith))

span_more : (t : ℕ → Bool) (i n : ℕ) → i < n → span_from t i (n - i) ≡ pick_n (t i) (span_from t (i + 1) (n - (i + 1))) i
unfolding span_from
span_more t i n h =
    let e : n - i ≡ suc (n - (i + 1)) = omega arith in
    rw e

-- one step of a loop that looks for the end of a span
module _ (t : ℕ → Bool) {i n d : ℕ} {r : Bool} (h : i < n) (inv : span_from t i (n - i) ≡ d) (e : r ≡ t i) where
  pub span-no : r ≡ false → i ≡ d
  span-no q = cc (span_more t i n h)

  pub span-yes : r ≡ true → span_from t (i + 1) (n - (i + 1)) ≡ d
  span-yes q = cc (span_more t i n h)

pub span-end : (t : ℕ → Bool) {i n d : ℕ} → n ≤ i → span_from t i (n - i) ≡ d → i ≡ d
unfolding span_from
span-end t {i} {n} h inv =
    let e : n - i ≡ 0 = omega arith in
    (rw e at inv)

-- a test of all numbers of a range is a test of all its indices
pub all-range : (t : ℕ → Bool) (i n : ℕ) → list_all t (range_with_len i n) ≡ all_from t i n
unfolding all_from
all-range t i zero = refl
all-range t i (suc n) = go (t i) (all-range t (i + 1) n)
  where
    go : (b : Bool) → list_all t (range_with_len (i + 1) n) ≡ all_from t (i + 1) n → (b && list_all t (range_with_len (i + 1) n)) ≡ both b (all_from t (i + 1) n)
    go true e = e
    go false e = refl
