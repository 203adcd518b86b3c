-- The working time from one second of a log to another, from what the walk between two instants answers.
use mathlib.Core.Path.{◌≡◌, sym, ◌∙◌}
use mathlib.Core.List.{List}
use Prim.Native.Nat.{ℕ, ◌+◌, ◌*◌, ◌-◌, ◌≤◌, ◌<◌, ◌^◌}
use native.Mathlib.Omega.{arith}
use lib.Dec.{ltb}
use lib.IntN.{ℤ}
use lib.ListN.{length}
use borrow.Author.Tests.{lt-ltb, le-ltb}
use Rattle.model.specs.Instant.{second}
use Rattle.model.specs.Working.{Schedule}
use Rattle.model.specs.Walk.{time_between}
use Rattle.laws_base.specs.Test.{by-test}
use Rattle.laws_hardest.specs.Logs.{run_count, run_start, run_end}
use Rattle.laws_hardest.specs.Windows.{log_time, time-none, time-short, starts-rise}
use Rattle.instant.specs.Instant.{nanos, Exact}
use Rattle.instant.specs.declared.Instant.{Instant}
use Rattle.rule.specs.declared.Schedule as rule
use Rattle.walk_between.specs.Sums.{Interval}
use Rattle.walk_hardest.specs.Held.{LogPart, LogAsked, PartAsked, part_of}

-- a is so many seconds after t
abbrev After : Instant → ℕ → Instant → Type 0
After t x a = (nanos a ≡ nanos t + (x * second + 0)) × Exact a

module _ (t : Instant) (from to : ℕ) (p : LogPart t from to) (a b : Instant) (ea : After t from a) (eb : After t to b) where
  pub part-interval : Interval a b
  part-interval =
      let l = p.start.low in
      let n = p.start.ns in
      let o = p.order in
      let i = p.inside in
      let x = ea.0 in
      let y = ea.1 in
      let z = eb.0 in
      let u = eb.1 in
      record {
        start = record { low = omega arith; high = omega arith; ns = y };
        end = record { low = omega arith; high = omega arith; ns = u };
        order = omega arith;
      }

  pub part-is : (s : Schedule) {x : ℕ} → x ≡ time_between s (nanos a) (nanos b) → x ≡ log_time s (nanos t) from to
  part-is s {x} e =
      let u : nanos a ≡ nanos t + from * second = let h = ea.0 in omega arith in
      let v : nanos b ≡ nanos t + to * second = let h = eb.0 in omega arith in
      e ∙ rw (u, v)

  pub part_small : (s : Schedule) {x : ℕ} → x ≡ time_between s (nanos a) (nanos b) → x < 2 ^ 64
  part_small s {x} e = let k = part-is s e in let m = time-short s (nanos t) from to p.order in let h = p.short in omega arith

-- ---- parts of a log

module _ {t : Instant} {log : List ℤ} {w : ℕ} (a : LogAsked t log w) where
  -- a whole run
  pub whole_part : {j from to : ℕ} → j < run_count log → from ≡ run_start log j → to ≡ run_end log j → to - from ≤ w → LogPart t from to
  whole_part {j} h p q l =
      let r = a.fits.each j h in
      let x = r.lasts in
      let y = r.inside in
      let m = a.width in
      let n = a.start.ns in
      record { start = a.start; order = omega arith; short = omega arith; inside = omega arith }

  -- from the start of run k to the end of the window that starts with run i
  pub tail-part : {i k from to : ℕ} → PartAsked log w i k → k < run_count log → from ≡ run_start log k → to ≡ run_start log i + w → from < to → LogPart t from to
  tail-part {i} {k} b h p q l =
      let r = a.fits.each k h in
      let y = r.inside in
      let e = b.ends h in
      let g = starts-rise (nanos t) log a.fits i k b.from h in
      let m = a.width in
      let n = a.start.ns in
      record { start = a.start; order = omega arith; short = omega arith; inside = omega arith }

module _ (s : Schedule) (t : ℕ) (log : List ℤ) (w i k : ℕ) where
  pub part_none : k ≡ run_count log → 0 ≡ part_of s t log w i k
  part_none h = rw (le-ltb k (run_count log) (omega arith))

  pub part-empty : run_start log i + w ≤ run_start log k → 0 ≡ part_of s t log w i k
  part-empty h = by-test (ltb k (run_count log)) (λ e. rw e (sym (time-none s _ _ (omega arith)))) (λ e. rw e)

  pub part-some : k < run_count log → {from to : ℕ} → from ≡ run_start log k → to ≡ run_start log i + w → log_time s t from to ≡ part_of s t log w i k
  part-some h p q = rw (lt-ltb k (run_count log) h, p, q)
