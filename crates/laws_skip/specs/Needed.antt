-- The least number of windows is a plain count: of the windows begun, those that may not be skipped. Document 01: "Windows are seven days from
-- the starting instant. One may be skipped if it and the window walked before it are whole, the span from 11 days before their border to 11 days
-- after lies in the range, .."; "at least one for each window that may not be skipped".
-- Window k begins at the distance k weeks from the starting instant; the first one, k = 0, has none before it.
use Rattle.std.specs.Prelude.{◌≡◌, Bool, true, false, not, ◌&&◌, List, [], ◌∷◌, leb, ltb, eqb, length, if◌then◌else◌}
use Rattle.std.proofs.Math.Path.{refl}
use Rattle.std.proofs.Common.{sym, ◌∙◌, lt-ltb, le-ltb, le-leb, eq-eqb, ne_eqb}
use Prim.Native.Nat.{ℕ, zero, suc, ◌+◌, ◌*◌, ◌-◌, ◌≤◌, ◌<◌, min}
use native.Mathlib.Omega.{arith}
use Rattle.std.proofs.Math.Decide.{dec_le}
use Rattle.std.proofs.lemmas.Bool.{lt-leb}
use Rattle.model.specs.Basic.{filter, run}
use Rattle.model.specs.Instant.{week}
use Rattle.model.specs.Blocks.{Block, block, total}
use Rattle.model.specs.Working.{Schedule, working}
use Rattle.model.specs.Walk.{Way, on, back, at, reach, backward, ahead, begun, time_from, time_between, listed}
use Rattle.model.specs.Skip.{repeats, needed_from, any_time, some_time, needed_between, needed_search}
use Rattle.laws_base.specs.Test.{by-test}
use Rattle.laws_blocks.specs.Totals.{total-append}
use Rattle.laws_blocks.specs.Stretches.{listed_more, time-listed}
use Rattle.laws_skip.specs.WindowEnds.{Inside, onward-total, backward-none, backward-cons}
use Rattle.laws_skip.specs.Schedules.{working-inside}

-- of n windows, how many may not be skipped
abbrev pub not_skipped : (ℕ → Bool) → ℕ → ℕ
not_skipped may_skip n = length (filter (λ k. not (may_skip k)) (run 0 n))

-- window k and the one before it are whole, in a walk that ends at the distance z
abbrev pub whole : ℕ → ℕ → Bool
whole z k = ltb 0 k && leb ((k + 1) * week) z

-- `between` from a to b: they are whole, and the skip test passes at their border
abbrev pub may_skip_between : Schedule → ℕ → ℕ → ℕ → Bool
may_skip_between s a b k = whole (b - a) k && repeats s (a + k * week)

-- the working time of window k
abbrev pub week_time : (ℕ → ℕ → List Block) → ℕ → ℕ
week_time look k = total (look (k * week) ((k + 1) * week))

-- the working time of the k windows before it: what `between` gives from t to window k (`before_on`, `before_back`)
abbrev pub time_before : (ℕ → ℕ → List Block) → ℕ → ℕ
time_before look k = time_from k look 0 (k * week)

-- "`add` and `sub` skip only if that time", of the window before, "is positive and less than what is left"
abbrev pub worth_skipping : (ℕ → ℕ → List Block) → ℕ → ℕ → Bool
worth_skipping look d k = some_time (week_time look (k - 1)) (d - time_before look k)

-- `add` and `sub` of d from t, on or back, whose last window ends with the range
abbrev pub may_skip_search : Way → Schedule → ℕ → ℕ → ℕ → Bool
may_skip_search w s t d k = whole (reach w t) k && (worth_skipping (ahead w s t) d k && repeats s (at w t (k * week)))

-- ---- the proof

module _ (look : ℕ → ℕ → List Block) where
  time-none : (lo b : ℕ) → time_from 0 look lo b ≡ 0
  unfolding time_from
  time-none lo b = refl

  -- one window more
  time-more : (n lo mid hi : ℕ) → mid ≡ lo + n * week → hi ≡ mid + week → time_from (suc n) look lo hi ≡ time_from n look lo mid + total (look mid hi)
  time-more n lo mid hi p q = rw (time-listed look (suc n) lo hi, time-listed look n lo mid, listed_more look n lo mid hi p q) (total-append (listed n look lo mid) (look mid hi))

  before_more : (k : ℕ) → time_before look (suc k) ≡ time_before look k + week_time look k
  before_more k =
      let e : suc k * week ≡ (k + 1) * week = omega arith in
      rw e (time-more k 0 (k * week) ((k + 1) * week) (omega arith) (omega arith))

-- what a window adds to the count
abbrev one : Bool → ℕ
one b = if b then 0 else 1

count-more : (may_skip : ℕ → Bool) (k n : ℕ) → length (filter (λ j. not (may_skip j)) (run k (suc n))) ≡ one (may_skip k) + length (filter (λ j. not (may_skip j)) (run (suc k) n))
unfolding filter run
count-more may_skip k n = by-test (may_skip k) (λ e. rw e (omega arith)) (λ e. rw e (omega arith))

module _ (may : ℕ → ℕ → Bool) (look : ℕ → ℕ → List Block) (rep : ℕ → Bool) (z d : ℕ) where
  abbrev skips : ℕ → Bool
  skips k = whole z k && (may (week_time look (k - 1)) (d - time_before look k) && rep (k * week))

  -- where the walk stands at window k: its distance, the time of the window before it and what is left; they count only up to z
  record Stands (k x time left : ℕ) : Type 0 where
    place : x ≡ min (k * week) z
    last : 0 < k → k * week ≤ z → time ≡ week_time look (k - 1)
    rest : k * week ≤ z → left ≡ d - time_before look k

  -- the two tests are one
  test-same : (k x time left : ℕ) → Stands k x time left → (ltb 0 x && (eqb (min (x + week) z - x) week && (may time left && rep x))) ≡ skips k
  test-same k x time left s = go (dec_le ((k + 1) * week) z) (dec_le k 0)
    where
      neither : (a b : Bool) → (a && false) ≡ ((b && false) && (may (week_time look (k - 1)) (d - time_before look k) && rep (k * week)))
      neither true true = refl
      neither true false = refl
      neither false true = refl
      neither false false = refl

      go : Dec ((k + 1) * week ≤ z) → Dec (k ≤ 0) → (ltb 0 x && (eqb (min (x + week) z - x) week && (may time left && rep x))) ≡ skips k
      go (yes h) (yes o) = let p = s.place in rw (le-ltb 0 x (omega arith), le-ltb 0 k o)
      go (yes h) (no o) =
          let e : x ≡ k * week = (let p = s.place in omega arith) in
          let f : min (k * week + week) z - k * week ≡ week = omega arith in
          rw (s.last (omega arith) (omega arith), s.rest (omega arith), e, lt-ltb 0 (k * week) (omega arith), eq-eqb (min (k * week + week) z - k * week) week f, lt-ltb 0 k (omega arith), le-leb ((k + 1) * week) z h)
      go (no h) o =
          let f : eqb (min (x + week) z - x) week ≡ false = ne_eqb (min (x + week) z - x) week (λ e. let p = s.place in h (omega arith)) in
          rw (f, lt-leb ((k + 1) * week) z (omega arith)) (neither (ltb 0 x) (ltb 0 k))

  stands_on : (k x time left : ℕ) → Stands k x time left → Stands (suc k) (min (x + week) z) (total (look x (min (x + week) z))) (left - total (look x (min (x + week) z)))
  stands_on k x time left s = record {
    place = (let p = s.place in omega arith);
    last = λ _ h. (let e : suc k - 1 ≡ k = omega arith in rw e (now h));
    rest = λ h. (let a = before_more look k in let b = now h in let r = s.rest (omega arith) in omega arith);
  }
    where
      now : suc k * week ≤ z → total (look x (min (x + week) z)) ≡ week_time look k
      now h =
          let p = s.place in
          let e : x ≡ k * week = omega arith in
          let f : min (k * week + week) z ≡ (k + 1) * week = omega arith in
          rw (e, f)

  needed-from : (n k x time left : ℕ) → Stands k x time left → needed_from n may look rep z x time left ≡ length (filter (λ j. not (skips j)) (run k n))
  unfolding needed_from filter run
  needed-from zero k x time left s = refl
  needed-from (suc n) k x time left s =
      rw (test-same k x time left s, needed-from n (suc k) (min (x + week) z) (total (look x (min (x + week) z))) (left - total (look x (min (x + week) z))) (stands_on k x time left s))
      (sym (count-more skips k n))

  starts : Stands 0 0 0 d
  starts = record { place = omega arith; last = λ h _. absurd (omega arith); rest = λ _. rw (time-none look 0 (0 * week)) (omega arith) }

-- ---- the least number of windows

pub needed-between : (s : Schedule) (a b : ℕ) → needed_between s a b ≡ not_skipped (may_skip_between s a b) (begun (b - a))
needed-between s a b =
    let look = ahead on s a in
    let rep : ℕ → Bool = λ x. repeats s (a + x) in
    needed-from any_time look rep (b - a) 0 (begun (b - a)) 0 0 0 0 (starts any_time look rep (b - a) 0)

pub needed-search : (w : Way) (s : Schedule) (t d x : ℕ) → needed_search w s t d x ≡ not_skipped (may_skip_search w s t d) (begun x)
needed-search w s t d x =
    let look = ahead w s t in
    let rep : ℕ → Bool = λ y. repeats s (at w t y) in
    needed-from some_time look rep (reach w t) d (begun x) 0 0 0 d (starts some_time look rep (reach w t) d)

-- ---- what is left of d: the working time of the windows before is what `between` gives

backward-total : (t lo hi : ℕ) (l : List Block) → hi ≤ t → Inside lo hi l → total (backward t l) ≡ total l
unfolding total
backward-total t lo hi [] h i = rw (backward-none t)
backward-total t lo hi (b ∷ l) h i =
    let r = backward-total t lo hi l h i.3 in
    rw (backward-cons t b l, total-append (backward t l) (block (t - b.end) (t - b.start) ∷ []), r) (omega arith)

module _ (s : Schedule) (t : ℕ) where
  on-week : (k : ℕ) → week_time (ahead on s t) k ≡ total (working s (t + k * week) (t + (k + 1) * week))
  unfolding ahead
  on-week k = onward-total t (t + k * week) (t + (k + 1) * week) (working s (t + k * week) (t + (k + 1) * week)) (omega arith) (working-inside s (t + k * week) (t + (k + 1) * week) (omega arith))

  back-week : (k : ℕ) → week_time (ahead back s t) k ≡ total (working s (t - (k + 1) * week) (t - k * week))
  unfolding ahead
  back-week k = backward-total t (t - (k + 1) * week) (t - k * week) (working s (t - (k + 1) * week) (t - k * week)) (omega arith) (working-inside s (t - (k + 1) * week) (t - k * week) (omega arith))

  on-before : (k : ℕ) → time_before (ahead on s t) k ≡ time_from k (working s) t (t + k * week)
  on-before zero = time-none (ahead on s t) 0 (0 * week) ∙ sym (time-none (working s) t (t + 0 * week))
  on-before (suc k) =
      let a = on-before k in
      let b = before_more (ahead on s t) k in
      let c = on-week k in
      let e : t + suc k * week ≡ t + (k + 1) * week = omega arith in
      let d = time-more (working s) k t (t + k * week) (t + (k + 1) * week) (omega arith) (omega arith) in
      rw e (omega arith)

  back_more : (k : ℕ) → (k + 1) * week ≤ t → time_from (suc k) (working s) (t - suc k * week) t ≡ total (working s (t - (k + 1) * week) (t - k * week)) + time_from k (working s) (t - k * week) t
  unfolding time_from
  back_more k h =
      let e : t - suc k * week ≡ t - (k + 1) * week = omega arith in
      let f : min (t - (k + 1) * week + week) t ≡ t - k * week = omega arith in
      rw (e, f)

  back-before : (k : ℕ) → k * week ≤ t → time_before (ahead back s t) k ≡ time_from k (working s) (t - k * week) t
  back-before zero h = time-none (ahead back s t) 0 (0 * week) ∙ sym (time-none (working s) (t - 0 * week) t)
  back-before (suc k) h =
      let a = back-before k (omega arith) in
      let b = before_more (ahead back s t) k in
      let c = back-week k in
      let d = back_more k (omega arith) in
      omega arith

  pub before_on : (k : ℕ) → time_before (ahead on s t) k ≡ time_between s t (t + k * week)
  before_on k = let e : begun (t + k * week - t) ≡ k = omega arith in rw e (on-before k)

  pub before_back : (k : ℕ) → k * week ≤ t → time_before (ahead back s t) k ≡ time_between s (t - k * week) t
  before_back k h = let e : begun (t - (t - k * week)) ≡ k = omega arith in rw e (back-before k h)
