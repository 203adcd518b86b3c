-- Each answer of `hardest`, from what the code has tested and called.
use mathlib.Core.Path.{◌≡◌, refl, ◌∙◌, ap, ap₂}
use mathlib.Core.Bool.{true, false, not}
use mathlib.Core.List.{List, [], ◌∷◌, ◌++◌}
use Prim.Native.Nat.{ℕ, ◌+◌, ◌*◌, ◌≤◌}
use native.Mathlib.Omega.{arith}
use lib.Dec.{leb}
use lib.IntN.{ℤ, pos, nat_abs}
use lib.ListN.{length}
use borrow.Author.Tests.{leb-true}
use Rattle.model.specs.Basic.{is_in}
use Rattle.model.specs.Answer.{Answer, gives, refuses}
use Rattle.model.specs.Instant.{second, last_instant, is_below_0, instant_of, instant, duration}
use Rattle.model.specs.Calls.{Reply}
use Rattle.model.specs.Hardest as model
use Rattle.model.specs.Hardest.{are_runs, runs_of, most_numbers, is_log, is_width, most_width, windows_of, hardest_of, hardest_call}
use Rattle.model.specs.Working.{Schedule}
use Rattle.laws_base.specs.Test.{and_both, in_bounds, not-true}
use Rattle.laws_hardest.specs.Logs.{NotBelow0, not-below, log-fits}
use Rattle.laws_hardest.specs.Windows.{hardest-inside}
use Rattle.instant.specs.Instant.{nanos, Exact, InRange}
use Rattle.instant.specs.declared.Instant.{Instant}
use Rattle.instant_signed.specs.Reads.{instant_numbers}
use Rattle.instant_signed.specs.declared.SignedInstant.{SignedInstant}
use Rattle.instant_signed.specs.Durations.{signed_pair}
use Rattle.instant_signed.specs.DurationLaws.{duration-written}
use Rattle.instant_signed.specs.declared.Duration.{Duration}
use Rattle.walk_hardest.specs.Held.{LogAsked, stretch_is, hardest_in}
use Rattle.walk_hardest.specs.declared.Stretch.{Stretch}
use Rattle.schedule_hardest.specs.Hardests.{hardest_numbers, stretch_reply, stretch_numbers}

-- ---- what is refused

module _ (s : Schedule) (t₁ t₂ : ℤ) (log : List ℤ) (w : ℤ) where
  pub no-instant : instant_of t₁ t₂ ≡ refuses 8 0 → refuses 8 0 ≡ hardest_call s t₁ t₂ log w
  unfolding hardest_call
  no-instant e = rw e

  module _ (t : ℕ) (e : instant_of t₁ t₂ ≡ gives t) where
    pub no-log : is_log t log ≡ false → refuses 11 0 ≡ hardest_call s t₁ t₂ log w
    unfolding hardest_call
    no-log l = rw (e, l)

    module _ (l : is_log t log ≡ true) where
      pub no-width : is_width w ≡ false → refuses 12 0 ≡ hardest_call s t₁ t₂ log w
      unfolding hardest_call
      no-width k = rw (e, l, k)

      -- and what is given
      pub stretch-given : is_width w ≡ true → (h : model.Stretch) → h ≡ hardest_of t (windows_of s (nat_abs w * second) (runs_of t log))
          → {r : List ℤ} → r ≡ stretch_numbers h.time h.start → gives (stretch_reply r) ≡ hardest_call s t₁ t₂ log w
      unfolding hardest_call
      stretch-given k h q r = ap (λ l. gives (stretch_reply l)) r ∙ ap (λ (x : model.Stretch). gives (stretch_reply (stretch_numbers x.time x.start))) q ∙ rw (e, l, k)

-- ---- what the walk is asked

pub width_read : (w : ℤ) → is_width w ≡ true → NotBelow0 w × (nat_abs w ≤ most_width)
width_read w k =
    let p = and_both (not (is_below_0 w)) (is_in 1 most_width (nat_abs w)) k in
    (not-below w (not-true _ p.0), (in_bounds 1 most_width (nat_abs w) p.1).1)

module _ (t : Instant) (r : InRange t) (log : List ℤ) (l : is_log (nanos t) log ≡ true) where
  are-runs : are_runs (nanos t) 0 log ≡ true
  are-runs = (and_both (leb (length log) most_numbers) (are_runs (nanos t) 0 log) l).1

  pub asked : (w : ℤ) {x : ℕ} → is_width w ≡ true → x ≡ nat_abs w → LogAsked t log x
  asked w k e =
      let n : length log ≤ most_numbers = leb-true _ _ (and_both (leb (length log) most_numbers) (are_runs (nanos t) 0 log) l).0 in
      let m = (width_read w k).1 in
      record { start = r; fits = log-fits (nanos t) log are-runs; few = n; width = omega arith }

  -- the start of the answer is in the range
  pub start-inside : (s : Schedule) (x : ℕ) (h : Stretch) → stretch_is (nanos t) h ≡ hardest_in s (nanos t) log x → nanos t + h.start * second ≤ last_instant
  start-inside s x h e =
      let a = r.high in
      let b = r.ns in
      let p : nanos t + h.start * second ≡ (hardest_in s (nanos t) log x).start = ap (λ (y : model.Stretch). y.start) e in
      let q = hardest-inside s (nanos t) log x are-runs (omega arith) in
      omega arith

-- ---- what is written

pub stretch-written : (t : Instant) (start : ℕ) (time : Instant) (d : Duration) (i : SignedInstant) {z : ℕ} → Exact time → nanos time ≡ z → d ≡ signed_pair false time.sec time.ns
    → instant_numbers i ≡ instant (nanos (record { sec = t.sec + start; ns = t.ns })) → hardest_numbers (record { time = d; start = i }) ≡ stretch_numbers z (nanos t + start * second)
stretch-written t start time d i {z} h e p q =
    let n : nanos (record { sec = t.sec + start; ns = t.ns }) ≡ nanos t + start * second = omega arith in
    ap₂ (λ (l m : List ℤ). l ++ m)
    (duration-written false time.sec time.ns d h p refl refl ∙ ap (λ (n : ℕ). duration (record { minus = false; size = n })) e)
    (q ∙ ap instant n)
