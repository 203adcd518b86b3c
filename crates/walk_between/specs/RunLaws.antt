-- The windows that have the time of the one before them, counted: as many as the run has, and none where there is no run.
use Rattle.std.specs.Prelude.{◌≡◌, refl, Bool, true, false, ◌&&◌, ℕ, ◌+◌, ◌*◌, ◌-◌, ◌≤◌, ◌<◌, min, eqb, Option, Some, None}
use Rattle.std.proofs.Common.{ap, arith}
use Rattle.model.specs.Instant.{week}
use Rattle.model.specs.Skip.{repeats}
use Rattle.model.specs.Working.{Schedule}
use Rattle.instant.specs.Instant.{nanos}
use Rattle.instant.specs.declared.Instant.{Instant}
use Rattle.walk_distance.specs.declared.Run.{Run}
use Rattle.walk_between.specs.Sums.{RunFrom}

abbrev pub count_of : Option Run → ℕ
count_of None = 0
count_of (Some r) = r.count

-- a time is kept of the window before
abbrev pub is_known : Option Instant → Bool
is_known None = false
is_known (Some time) = true

pub none : (s : Schedule) (kept : Option Instant) (lo b : Instant) (r : Option Run) → RunFrom s kept lo b r → count_of r ≡ 0
    → (is_known kept && (eqb (min (nanos lo + week) (nanos b) - nanos lo) week && repeats s (nanos lo))) ≡ false
none s None lo b None h e = refl
none s (Some time) lo b None h e = h
none s kept lo b (Some r) h e = let n = h.1.some in absurd (omega arith)

pub some : (s : Schedule) (kept : Option Instant) (lo b : Instant) (r : Option Run) → RunFrom s kept lo b r → 0 < count_of r → is_known kept ≡ true
some s kept lo b None h n = absurd (omega arith)
some s kept lo b (Some r) h n = ap is_known h.0

pub each : (s : Schedule) (kept : Option Instant) (lo b : Instant) (r : Option Run) → RunFrom s kept lo b r → (i : ℕ) → i < count_of r → repeats s (nanos lo + i * week) ≡ true
each s kept lo b None h i l = absurd (omega arith)
each s kept lo b (Some r) h i l = h.1.each i l

pub inside : (s : Schedule) (kept : Option Instant) (lo b : Instant) (r : Option Run) → RunFrom s kept lo b r → nanos lo ≤ nanos b → nanos lo + count_of r * week ≤ nanos b
inside s kept lo b None h l = omega arith
inside s kept lo b (Some r) h l = h.1.inside
