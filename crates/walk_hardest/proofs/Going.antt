-- The loop over all windows: the runs that are held, and the best window so far.
use mathlib.Core.Path.{◌≡◌, sym, ◌∙◌, ap}
use mathlib.Core.List.{List}
use Prim.Native.Nat.{ℕ, ◌+◌, ◌*◌, ◌≤◌, ◌<◌, ◌^◌}
use native.Mathlib.Omega.{arith}
use native.Mathlib.Decide.{dec_le}
use lib.Dec.{ltb}
use lib.IntN.{ℤ}
use lib.ListN.{drop}
use borrow.Author.Tests.{ltb-true, ltb-false}
use Rattle.model.specs.Instant.{second}
use Rattle.model.specs.Working.{Schedule}
use Rattle.model.specs.Hardest as model
use Rattle.laws_base.specs.Test.{by-test}
use Rattle.laws_hardest.specs.Earliest.{stretch, harder, hardest_from, hardest-pass}
use Rattle.laws_hardest.specs.Logs.{run_count, run_start, run_end, log-anywhere}
use Rattle.laws_hardest.specs.Windows.{log_time, time-none, time-short, starts-rise, value_at, value-all, value-part, windows_at, windows-from, windows-end, first-start}
use Rattle.instant.specs.Instant.{nanos}
use Rattle.instant.specs.declared.Instant.{Instant}
use Rattle.walk_hardest.specs.Held.{LogAsked, whole_at, KnownTimes, CanHold, HoldsRuns, HoldsNoMore, PartAsked, part_of, FirstStart, stretch_is, harder_of, hardest_in}
use Rattle.walk_hardest.specs.declared.Held.{Held}
use Rattle.walk_hardest.specs.declared.Stretch.{Stretch}
use Rattle.walk_hardest.proofs.Holding.{held_small, whole-short, whole-most}

module _ (s : Schedule) (t : Instant) (log : List ℤ) (w : ℕ) (whole : List ℕ) where
  -- at the window that starts with run i
  pub record Going (i : ℕ) (h : Held) (best : Stretch) : Type 0 where
    pub holds : HoldsRuns log w whole i h
    pub within : i ≤ run_count log
    pub rest : hardest_from (stretch_is (nanos t) best) (drop i (windows_at s (nanos t) log w)) ≡ hardest_in s (nanos t) log w

  -- in the beginning
  pub going-starts : {x : ℕ} → FirstStart log x → Going 0 (record { next = 0; time = 0 }) (record { time = 0; start = x })
  going-starts {x} f = record {
    holds = record { from = omega arith; to = omega arith; whole = λ j p q. absurd (omega arith); sum = omega arith };
    within = omega arith;
    rest = ap (λ (y : ℕ). hardest_from (stretch 0 y) (windows_at s (nanos t) log w)) (first-start s (nanos t) log w x f.0 f.1) ∙ hardest-pass (nanos t) (windows_at s (nanos t) log w);
  }

  -- at the end
  pub going-ends : {i : ℕ} {h : Held} {best : Stretch} → Going i h best → run_count log ≤ i → stretch_is (nanos t) best ≡ hardest_in s (nanos t) log w
  going-ends {i} {h} {best} g e = sym (ap (hardest_from (stretch_is (nanos t) best)) (windows-end s (nanos t) log w i e)) ∙ g.rest

  module _ (a : LogAsked t log w) (known : KnownTimes s (nanos t) log w whole) where
    pub can-hold : CanHold log w whole
    can-hold = record {
      fits = log-anywhere (nanos t) log a.fits;
      width = a.width;
      room = known.room;
      short = λ j h. (let l = (a.fits.each j h).lasts in let k = known.each j h in let m = whole-most s (nanos t) log w j (omega arith) in omega arith);
    }

    module _ (i : ℕ) (inside : i < run_count log) (r : Held) (k : HoldsRuns log w whole i r) (no_more : HoldsNoMore log w i r.next) where
      pub part-asked : PartAsked log w i r.next
      part-asked = record { inside = inside; from = k.from; to = k.to; ends = no_more }

      -- the window's value
      pub value-is : {p : ℕ} → p ≡ part_of s (nanos t) log w i r.next → r.time + p ≡ value_at s (nanos t) log w i
      value-is {p} e =
          let c = k.sum in
          by-test (ltb r.next (run_count log))
          (λ q.
          let l = ltb-true r.next (run_count log) q in
          let z : p ≡ log_time s (nanos t) (run_start log r.next) (run_start log i + w) = e ∙ rw q in
          let v = value-part s (nanos t) log a.fits w i (whole_at whole) r.next k.from k.to k.whole times inside l (no_more l) in
          omega arith)
          (λ q.
          let l = ltb-false r.next (run_count log) q in
          let z : p ≡ 0 = e ∙ rw q in
          let b = k.to in
          let v = value-all s (nanos t) log a.fits w i (whole_at whole) r.next k.from k.to k.whole times inside (omega arith) in
          omega arith)
        where
          times : (j : ℕ) → i ≤ j → j < r.next → whole_at whole j ≡ log_time s (nanos t) (run_start log j) (run_end log j)
          times j p q =
              let b = k.to in
              let e = k.whole j p q in
              let g = starts-rise (nanos t) log a.fits i j p (omega arith) in
              known.each j (omega arith) ∙ whole-short s (nanos t) log w j (omega arith)

      -- which fits
      pub value-small : {p : ℕ} → p ≡ part_of s (nanos t) log w i r.next → r.time + p < 2 ^ 64
      value-small {p} e =
          let m = held_small log w whole can-hold i inside r k in
          let x = a.width in
          by-test (ltb r.next (run_count log))
          (λ q.
          let l = ltb-true r.next (run_count log) q in
          let g = starts-rise (nanos t) log a.fits i r.next k.from l in
          let z : p ≡ log_time s (nanos t) (run_start log r.next) (run_start log i + w) = e ∙ rw q in
          elim (dec_le (run_start log r.next) (run_start log i + w)) [
            | yes o ↦ (let n = time-short s (nanos t) (run_start log r.next) (run_start log i + w) o in omega arith)
            | no o ↦ (let n : log_time s (nanos t) (run_start log r.next) (run_start log i + w) ≡ 0 = time-none s _ _ (omega arith) in omega arith)
          ])
          (λ q. let z : p ≡ 0 = e ∙ rw q in omega arith)

      -- the best of one window more
      pub going_on_lem : {best best' : Stretch} {v x n : ℕ} {h₀ h : Held} → Going i h₀ best → v ≡ value_at s (nanos t) log w i → x ≡ run_start log i → best' ≡ harder_of best v x
          → HoldsRuns log w whole (i + 1) h → n ≡ i + 1 → Going n h best'
      going_on_lem {best} {best'} {v} {x} {n} {h₀} {h} g ev ex eb hold en = rw en (record {
        holds = hold;
        within = omega arith;
        rest = ap (λ (y : model.Stretch). hardest_from y (drop (i + 1) (windows_at s (nanos t) log w))) better
            ∙ sym (ap (hardest_from (stretch_is (nanos t) best)) (windows-from s (nanos t) log w i inside)) ∙ g.rest;
      })
        where
          chosen : stretch_is (nanos t) (harder_of best v x) ≡ harder (stretch_is (nanos t) best) (stretch v (nanos t + x * second))
          chosen = by-test (ltb best.time v) (λ q. rw q) (λ q. rw q)

          better : stretch_is (nanos t) best' ≡ harder (stretch_is (nanos t) best) (stretch (value_at s (nanos t) log w i) (nanos t + run_start log i * second))
          better = ap (stretch_is (nanos t)) eb ∙ chosen ∙ (λ k. harder (stretch_is (nanos t) best) (stretch (ev k) (nanos t + ex k * second)))
