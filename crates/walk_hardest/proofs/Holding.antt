-- The runs that a window holds whole: one more taken up, the first left behind, and their time, which is no more than the window's width.
use mathlib.Core.Path.{◌≡◌, ◌∙◌, ap}
use mathlib.Core.List.{List}
use Prim.Native.Nat.{ℕ, suc, ◌+◌, ◌*◌, ◌-◌, ◌≤◌, ◌<◌, ◌^◌}
use native.Mathlib.Omega.{arith}
use native.Mathlib.Decide.{dec_lt}
use lib.Dec.{ltb}
use lib.IntN.{ℤ}
use lib.ListN.{length, set}
use lib.Seq.{get_or-set_same, get_or-set_other}
use borrow.Author.Tests.{lt-ltb, le-ltb}
use Rattle.model.specs.Instant.{second}
use Rattle.model.specs.Working.{Schedule}
use Rattle.laws_base.specs.Test.{by-test}
use Rattle.laws_hardest.specs.Sums.{sum_to, sum_to-next, sum_to-grows}
use Rattle.laws_hardest.specs.Logs.{run_count, run_start, run_end}
use Rattle.laws_hardest.specs.Windows.{log_time, time-short, starts-rise, held-short}
use Rattle.walk_hardest.specs.Held.{whole_at, whole_time, KnownTo, KnownTimes, CanHold, HoldsRuns, harder_of}
use Rattle.walk_hardest.specs.declared.Held.{Held}
use Rattle.walk_hardest.specs.declared.Stretch.{Stretch}

abbrev held : ℕ → ℕ → Held
held next time = record { next = next; time = time }

next-sum : (f : ℕ → ℕ) (n : ℕ) → sum_to f (n + 1) ≡ sum_to f n + f n
next-sum f n = let e : n + 1 ≡ suc n = omega arith in ap (sum_to f) e ∙ sum_to-next f n

module _ (log : List ℤ) (w : ℕ) (whole : List ℕ) (can : CanHold log w whole) (i : ℕ) (inside : i < run_count log) where
  -- their time
  pub held_small : (h : Held) → HoldsRuns log w whole i h → h.time ≤ w * second
  held_small h k =
      let a = k.from in
      let b = k.to in
      let c = k.sum in
      let m = held-short 0 log (whole_at whole) can.fits i h.next (run_start log i + w) a b inside k.whole
      (λ j p q. can.short j (omega arith))
      (omega arith) in
      omega arith

  -- one more
  module _ (next time : ℕ) (k : HoldsRuns log w whole i (held next time)) (h : next < run_count log) (e : run_end log next ≤ run_start log i + w) where
    pub held_more : HoldsRuns log w whole i (held (next + 1) (time + whole_at whole next))
    held_more =
        let a = k.from in
        let c = k.sum in
        let n = next-sum (whole_at whole) next in
        record {
          from = omega arith;
          to = omega arith;
          whole = λ j p q. elim (dec_lt j next) [ yes l ↦ k.whole j p l | no l ↦ (let z : j ≡ next = omega arith in rw z e) ];
          sum = omega arith;
        }

    pub more-small : time + whole_at whole next < 2 ^ 64
    more-small = let m = held_small (held (next + 1) (time + whole_at whole next)) held_more in let x = can.width in omega arith

  -- the first left behind
  module _ (h : Held) (k : HoldsRuns log w whole i h) (more : h.next ≡ i → ⊥) where
    pub first-held : whole_at whole i ≤ h.time
    first-held =
        let a = k.from in
        let c = k.sum in
        let n = next-sum (whole_at whole) i in
        let g = sum_to-grows (whole_at whole) (i + 1) h.next (omega arith) in
        omega arith

    pub first-left : HoldsRuns log w whole (i + 1) (held h.next (h.time - whole_at whole i))
    first-left =
        let a = k.from in
        let b = k.to in
        let c = k.sum in
        let n = next-sum (whole_at whole) i in
        let l = first-held in
        record {
          from = omega arith;
          to = b;
          whole = λ j p q. (let e = k.whole j (omega arith) q in let r = starts-rise 0 log can.fits i (i + 1) (omega arith) (omega arith) in omega arith);
          sum = omega arith;
        }

-- ---- the times of whole runs

module _ (s : Schedule) (t : ℕ) (log : List ℤ) (w j : ℕ) where
  pub whole-short : run_end log j ≤ run_start log j + w → whole_time s t log w j ≡ log_time s t (run_start log j) (run_end log j)
  whole-short h = rw (le-ltb (run_start log j + w) (run_end log j) h)

  pub whole_long : run_start log j + w < run_end log j → whole_time s t log w j ≡ 0
  whole_long h = rw (lt-ltb (run_start log j + w) (run_end log j) h)

  -- no more than the run lasts
  pub whole-most : run_start log j ≤ run_end log j → whole_time s t log w j + run_start log j * second ≤ run_end log j * second
  whole-most h =
      by-test (ltb (run_start log j + w) (run_end log j)) (λ q. rw q (omega arith)) (λ q. rw q (time-short s t (run_start log j) (run_end log j) h))

module _ (s : Schedule) (t : ℕ) (log : List ℤ) (w : ℕ) (whole : List ℕ) (n : ℕ) where
  -- one more
  pub known_more : (x : ℕ) → KnownTo s t log w whole n → n < length whole → x ≡ whole_time s t log w n → KnownTo s t log w (set whole n x) (n + 1)
  known_more x k h e = λ j l. elim (dec_lt j n) [
    | yes p ↦ rw (get_or-set_other whole n j x 0 (λ q. omega arith)) (k j p)
    | no p ↦ (let z : j ≡ n = omega arith in rw (z, get_or-set_same whole n x 0 h) e)
  ]

  pub known-all : KnownTo s t log w whole n → run_count log ≤ n → run_count log ≤ length whole → KnownTimes s t log w whole
  known-all k h r = record { room = r; each = λ j l. k j (omega arith) }

-- ---- the better of two

pub takes-later : (best : Stretch) (time start : ℕ) → best.time < time → ◌≡◌ {A = Stretch} (record { time = time; start = start }) (harder_of best time start)
takes-later best time start h = rw (lt-ltb best.time time h)

pub keeps-best : (best : Stretch) (time start : ℕ) → time ≤ best.time → best ≡ harder_of best time start
keeps-best best time start h = rw (le-ltb best.time time h)
