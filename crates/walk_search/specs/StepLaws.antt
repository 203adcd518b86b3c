-- What a window leaves of a search, and what is kept of it, one answer at a time; and the windows that are skipped, counted.
use Rattle.std.specs.Prelude.{◌≡◌, refl, Bool, true, false, ◌&&◌, ℕ, ◌+◌, ◌*◌, ◌-◌, ◌≤◌, ◌<◌, min, eqb, Option, Some, None}
use Rattle.std.proofs.Common.{ap, arith}
use Rattle.model.specs.Instant.{week}
use Rattle.model.specs.Walk.{at}
use Rattle.model.specs.Skip.{repeats}
use Rattle.model.specs.Working.{Schedule}
use Rattle.laws_skip.specs.Skips.{may_skip}
use Rattle.instant.specs.Instant.{nanos, Exact}
use Rattle.instant.specs.declared.Instant.{Instant}
use Rattle.walk_distance.specs.Distances.{way_of}
use Rattle.walk_distance.specs.declared.Run.{Run}
use Rattle.walk_search.specs.Searches.{previous_is, KeptExact, SkippedFrom}
use Rattle.walk_search.specs.Steps.{ExactStep}
use Rattle.walk_search.specs.declared.Step.{Step}
use Rattle.walk_search.specs.declared.Step.TheVariants as S

-- ---- what a window leaves

pub found-exact : {r : Step} {z : Instant} → ExactStep r → r ≡ S.Found z → Exact z
found-exact {r} {z} e p = go (rw p at e)
  where
    go : ExactStep (S.Found z) → Exact z
    go h = h

pub left-exact : {r : Step} {d m : Instant} → ExactStep r → r ≡ S.Left d m → (Exact d) × (Exact m)
left-exact {r} {d} {m} e p = go (rw p at e)
  where
    go : ExactStep (S.Left d m) → (Exact d) × (Exact m)
    go h = h

-- the time that is kept of it
pub time : {k : Option Instant} {z : Instant} → KeptExact k → k ≡ Some z → Exact z
time {k} {z} e p = go (rw p at e)
  where
    go : KeptExact (Some z) → Exact z
    go h = h

-- ---- the windows that are skipped: as many as the run has, and none where there is no run

abbrev pub count_of : Option Run → ℕ
count_of None = 0
count_of (Some r) = r.count

-- a time is kept of the window before
abbrev pub is_known : Option Instant → Bool
is_known None = false
is_known (Some z) = true

abbrev pub time_of : Option Instant → ℕ
time_of None = 0
time_of (Some z) = nanos z

module _ (s : Schedule) (t : Instant) (back : Bool) (k : Option Instant) (left x end : Instant) where
  pub none : (r : Option Run) → SkippedFrom s t back k left x end r → (idle : ℕ) → count_of r ≡ 0
      → may_skip (previous_is k idle) (nanos left) (eqb (min (nanos x + week) (nanos end) - nanos x) week && repeats s (at (way_of back) (nanos t) (nanos x))) ≡ false
  none None h idle e = h idle
  none (Some r) h idle e = let n = h.1.some in absurd (omega arith)

  pub some : (r : Option Run) → SkippedFrom s t back k left x end r → 0 < count_of r → is_known k ≡ true
  some None h n = absurd (omega arith)
  some (Some r) h n = ap is_known h.0

  pub less : (r : Option Run) → SkippedFrom s t back k left x end r → 0 < count_of r → count_of r * time_of k < nanos left
  less None h n = absurd (omega arith)
  less (Some r) h n = let e : time_of k ≡ nanos r.time = ap time_of h.0 in rw e h.1.less

  pub each : (r : Option Run) → SkippedFrom s t back k left x end r → (i : ℕ) → i < count_of r → repeats s (at (way_of back) (nanos t) (nanos x + i * week)) ≡ true
  each None h i l = absurd (omega arith)
  each (Some r) h i l = h.1.each i l

  pub inside : (r : Option Run) → SkippedFrom s t back k left x end r → nanos x ≤ nanos end → nanos x + count_of r * week ≤ nanos end
  inside None h l = omega arith
  inside (Some r) h l = h.1.inside
