-- The value of a window by two ends: the runs that it holds whole, and a part of one more. Seconds are counted from the given instant.
use Rattle.std.specs.Prelude.{◌≡◌, true, List, [], ◌∷◌, map, ℤ, length, get_or, drop}
use Rattle.std.proofs.Common.{sym, ◌∙◌, drop_of_length-le, drop-cons}
use Rattle.std.proofs.Math.Path.{ap}
use Prim.Native.Nat.{ℕ, zero, suc, ◌+◌, ◌*◌, ◌-◌, ◌≤◌, ◌<◌, min, max}
use native.Mathlib.Omega.{arith}
use Rattle.std.proofs.Math.Decide.{dec_le, dec_lt}
use Rattle.std.proofs.lemmas.List.{length-map}
use Rattle.std.proofs.Math.ListN.{get_or-map}
use Rattle.model.specs.Instant.{second, last_instant}
use Rattle.model.specs.Blocks.{Block, block}
use Rattle.model.specs.Working.{Schedule}
use Rattle.model.specs.Walk.{time_from, time_between}
use Rattle.model.specs.Hardest.{Stretch, are_runs, runs_of, window_from, part_time, running_time, windows_of, hardest_of}
use Rattle.laws_base.specs.Every.{Every}
use Rattle.laws_skip.specs.Schedules.{time-most}
use Rattle.laws_hardest.specs.Earliest.{stretch, start_or, hardest-every}
use Rattle.laws_hardest.specs.Sums.{sum_to, sum-by-index, sum_to-next, sum_to-same, sum_to-none}
use Rattle.laws_hardest.specs.Logs.{run_count, run_start, run_end, run_at, runs-count, run_is, runs-inside, LogFits}

-- there is no working time from an instant to one that is not behind it
pub time-none : (s : Schedule) (a b : ℕ) → b ≤ a → time_between s a b ≡ 0
unfolding time_from
time-none s a b h = let e : b - a ≡ 0 = omega arith in rw e

-- working time from one second to another
abbrev pub log_time : Schedule → ℕ → ℕ → ℕ → ℕ
log_time s t x y = time_between s (t + x * second) (t + y * second)

-- no more than the time between them
pub time-short : (s : Schedule) (t x y : ℕ) → x ≤ y → log_time s t x y + x * second ≤ y * second
time-short s t x y h = let m = time-most s (t + x * second) (t + y * second) (omega arith) in omega arith

-- the value of the window of w seconds that starts with run i
abbrev pub value_at : Schedule → ℕ → List ℤ → ℕ → ℕ → ℕ
value_at s t log w i = running_time s (runs_of t log) (window_from (w * second) (t + run_start log i * second))

-- the runs' starts rise
pub starts-rise : (t : ℕ) (log : List ℤ) → LogFits t log → (i j : ℕ) → i ≤ j → j < run_count log → run_start log i ≤ run_start log j
starts-rise t log f i j h l = go (dec_lt i j)
  where
    go : Dec (i < j) → run_start log i ≤ run_start log j
    go (yes q) = let a = f.apart i j q l in let b = (f.each i (omega arith)).lasts in omega arith
    go (no q) = let e : i ≡ j = omega arith in rw e (omega arith)

module _ (s : Schedule) (t : ℕ) (log : List ℤ) (f : LogFits t log) (w i : ℕ) where
  -- run j's part in the window
  abbrev part_at : ℕ → ℕ
  part_at j = log_time s t (max (run_start log i) (run_start log j)) (min (run_start log i + w) (run_end log j))

  -- no run passes the last instant, so a window that is cut there has what it had
  part-is : (j : ℕ) → j < run_count log → part_time s (window_from (w * second) (t + run_start log i * second)) (run_at t log j) ≡ part_at j
  part-is j h =
      let k = (f.each j h).inside in
      let a : max (t + run_start log i * second) (t + run_start log j * second) ≡ t + max (run_start log i) (run_start log j) * second = omega arith in
      let b : min (min (t + run_start log i * second + w * second) last_instant) (t + run_end log j * second) ≡ t + min (run_start log i + w) (run_end log j) * second = omega arith in
      rw (a, b)

  value-by-index : value_at s t log w i ≡ sum_to part_at (run_count log)
  unfolding sum_to
  value-by-index =
      let d = block 0 0 in
      let g : ℕ → ℕ = λ j. part_time s (window_from (w * second) (t + run_start log i * second)) (get_or (runs_of t log) j d) in
      let p : running_time s (runs_of t log) (window_from (w * second) (t + run_start log i * second)) ≡ sum_to g (run_count log)
      = sum-by-index (part_time s (window_from (w * second) (t + run_start log i * second))) d (runs_of t log) ∙ ap (sum_to g) (runs-count t log) in
      let q : sum_to g (run_count log) + 0 ≡ sum_to part_at (run_count log) + 0
      = sum_to-same g 0 part_at (run_count log) (omega arith)
      (λ j _ h. ap (part_time s (window_from (w * second) (t + run_start log i * second))) (run_is t log j d h) ∙ part-is j h) in
      omega arith

  -- the window holds the runs from i to k - 1 whole, where m has their times
  module _ (m : ℕ → ℕ) (k : ℕ) (from : i ≤ k) (to : k ≤ run_count log) (whole : (j : ℕ) → i ≤ j → j < k → run_end log j ≤ run_start log i + w)
      (known : (j : ℕ) → i ≤ j → j < k → m j ≡ log_time s t (run_start log j) (run_end log j)) (inside : i < run_count log) where
    -- the runs before it have no part in it
    none_before : sum_to part_at i ≡ 0
    unfolding sum_to
    none_before = sum_to-none part_at 0 i (omega arith) (λ j _ h. let a = f.apart j i h inside in time-none s _ _ (omega arith))

    held : sum_to part_at k + sum_to m i ≡ sum_to m k
    held =
        let p = sum_to-same part_at i m k from
        (λ j h l.
        let r = starts-rise t log f i j h (omega arith) in
        let e = whole j h l in
        let a : max (run_start log i) (run_start log j) ≡ run_start log j = omega arith in
        let b : min (run_start log i + w) (run_end log j) ≡ run_end log j = omega arith in
        rw (a, b) (sym (known j h l))) in
        let z = none_before in
        omega arith

    -- where there is no run behind them
    pub value-all : k ≡ run_count log → value_at s t log w i + sum_to m i ≡ sum_to m k
    value-all e = let p = value-by-index in let h = held in let c : sum_to part_at (run_count log) ≡ sum_to part_at k = ap (sum_to part_at) (sym e) in omega arith

    -- and where the window ends before run k does
    pub value-part : k < run_count log → run_start log i + w < run_end log k → value_at s t log w i + sum_to m i ≡ sum_to m k + log_time s t (run_start log k) (run_start log i + w)
    value-part l e =
        let p = value-by-index in
        let h = held in
        let n = sum_to-next part_at k in
        let r = starts-rise t log f i k from l in
        let a : max (run_start log i) (run_start log k) ≡ run_start log k = omega arith in
        let b : min (run_start log i + w) (run_end log k) ≡ run_start log i + w = omega arith in
        let q : part_at k ≡ log_time s t (run_start log k) (run_start log i + w) = rw (a, b) in
        let z = sum_to-none part_at (suc k) (run_count log) l
        (λ j x y. let c = f.apart k j (omega arith) y in let r = starts-rise t log f i j (omega arith) y in time-none s _ _ (omega arith)) in
        omega arith

-- the times of runs i to k - 1 are no more than the time from the start of the first to a second b behind them all
pub held-short : (t : ℕ) (log : List ℤ) (m : ℕ → ℕ) → LogFits t log → (i k b : ℕ) → i ≤ k → k ≤ run_count log → i < run_count log
    → ((j : ℕ) → i ≤ j → j < k → run_end log j ≤ b) → ((j : ℕ) → i ≤ j → j < k → m j + run_start log j * second ≤ run_end log j * second) → run_start log i ≤ b
    → sum_to m k + run_start log i * second ≤ sum_to m i + b * second
unfolding sum_to
held-short t log m f i zero b h l x e g o = let z : i ≡ 0 = omega arith in let u = ap (sum_to m) z in omega arith
held-short t log m f i (suc k) b h l x e g o =
    elim (dec_le i k) [
      | yes q ↦
          (let r = starts-rise t log f i k q (omega arith) in
          let p = held-short t log m f i k (run_start log k) q (omega arith) x (λ j u v. f.apart j k v (omega arith)) (λ j u v. g j u (omega arith)) r in
          let c = g k q (omega arith) in
          let d = e k q (omega arith) in
          omega arith)
      | no q ↦ (let z : i ≡ suc k = omega arith in let u = ap (sum_to m) z in omega arith)
    ]

-- ---- the windows of a log, one for each run

module _ (s : Schedule) (t : ℕ) (log : List ℤ) (w : ℕ) where
  abbrev pub windows_at : List Stretch
  windows_at = windows_of s (w * second) (runs_of t log)

  windows-count : length windows_at ≡ run_count log
  windows-count = length-map (runs_of t log) _ ∙ runs-count t log

  -- the windows from the one that starts with run i on
  pub windows-from : (i : ℕ) → i < run_count log → drop i windows_at ≡ stretch (value_at s t log w i) (t + run_start log i * second) ∷ drop (i + 1) windows_at
  windows-from i h =
      let g : Block → Stretch = λ (r : Block). record { time = running_time s (runs_of t log) (window_from (w * second) r.start); start = r.start } in
      let d = block 0 0 in
      let e : suc i ≡ i + 1 = omega arith in
      drop-cons windows_at i (g d) (let c = windows-count in omega arith)
      ∙ (λ k. (get_or-map g (runs_of t log) i d ∙ ap g (run_is t log i d h)) k ∷ drop (e k) windows_at)

  pub windows-end : (i : ℕ) → run_count log ≤ i → drop i windows_at ≡ []
  windows-end i h = drop_of_length-le windows_at {i = i} (let c = windows-count in omega arith)

  -- where the first one starts
  pub first-start : (x : ℕ) → (run_count log ≡ 0 → x ≡ 0) → (0 < run_count log → x ≡ run_start log 0) → t + x * second ≡ start_or t windows_at
  first-start x f g =
      elim (dec_lt 0 (run_count log)) [
        | yes h ↦ (let e : windows_at ≡ stretch (value_at s t log w 0) (t + run_start log 0 * second) ∷ drop 1 windows_at = windows-from 0 h in rw e (ap (λ (y : ℕ). t + y * second) (g h)))
        | no h ↦ (let e : windows_at ≡ [] = windows-end 0 (omega arith) in rw e (let z : x ≡ 0 = f (omega arith) in omega arith))
      ]

  -- no window starts past the last instant
  pub hardest-inside : are_runs t 0 log ≡ true → t ≤ last_instant → (hardest_of t windows_at).start ≤ last_instant
  hardest-inside h k = hardest-every (λ (x : Stretch). x.start ≤ last_instant) t windows_at k (each (runs_of t log) (runs-inside t 0 log h))
    where
      each : (l : List Block) → Every (λ (r : Block). r.start ≤ last_instant) l
          → Every (λ (x : Stretch). x.start ≤ last_instant) (map (λ (r : Block). record { time = running_time s (runs_of t log) (window_from (w * second) r.start); start = r.start }) l)
      each [] h = tt
      each (r ∷ l) h = (h.0, each l h.1)
