-- What the walk over the working time between two instants is asked and answers.
use Rattle.std.specs.Prelude.{◌≡◌, Bool, true, false, ◌&&◌, ℕ, ◌+◌, ◌*◌, ◌-◌, ◌≤◌, ◌<◌, min, eqb, Option, Some, None}
use Rattle.std.proofs.Math.Option as Kept
use Rattle.laws_skip.specs.Skips.{may_reuse}
use Rattle.model.specs.Instant.{week}
use Rattle.model.specs.Skip.{repeats, needed_between}
use Rattle.model.specs.Walk.{time_between}
use Rattle.model.specs.Working.{Schedule}
use Rattle.instant.specs.Instant.{nanos, Exact, InRange}
use Rattle.instant.specs.declared.Instant.{Instant}
use Rattle.walk_distance.specs.declared.Run.{Run}
use Rattle.walk_between.specs.declared.Summed.{Summed}

-- two instants of the range, the first at or before the second
pub record Interval (a b : Instant) : Type 0 where
  pub start : InRange a
  pub end : InRange b
  pub order : nanos a ≤ nanos b

-- the time that is kept of a window
abbrev pub kept_is : Option Instant → Kept.Option ℕ
kept_is None = Kept.none
kept_is (Some time) = Kept.some (nanos time)

-- n windows from x on, and at least one, repeat the one before them
pub record Reused (rep : ℕ → Bool) (x end n : ℕ) : Type 0 where
  pub some : 0 < n
  pub each : (i : ℕ) → i < n → rep (x + i * week) ≡ true
  pub inside : x + n * week ≤ end

-- windows from lo on that have the time of the one before them, if that is kept; and there is none only if the first has not
abbrev pub RunFrom : Schedule → Option Instant → Instant → Instant → Option Run → Type 0
RunFrom s kept lo b None = may_reuse (kept_is kept) (eqb (min (nanos lo + week) (nanos b) - nanos lo) week && repeats s (nanos lo)) ≡ false
RunFrom s kept lo b (Some r) = (kept ≡ Some r.time) × Reused (repeats s) (nanos lo) (nanos b) r.count

-- the working time from a to b and the number of windows resolved, as the definitions say them
abbrev pub Sums : Schedule → Instant → Instant → Summed → Type 0
Sums s a b r = (nanos r.time ≡ time_between s (nanos a) (nanos b)) × (r.windows ≡ needed_between s (nanos a) (nanos b)) × Exact r.time
