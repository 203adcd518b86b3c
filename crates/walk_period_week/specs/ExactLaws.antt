-- The nanoseconds of a period that is known are less than a second, whether it may go on or has ended.
use Rattle.std.specs.Prelude.{◌≡◌}
use Rattle.instant.specs.Instant.{Exact}
use Rattle.instant.specs.declared.Instant.{Instant}
use Rattle.walk_period_week.specs.SoFars.{ExactSoFar}
use Rattle.walk_period_week.specs.declared.SoFar.{SoFar}
use Rattle.walk_period_week.specs.declared.SoFar.TheVariants as K

pub growing-exact : {r : SoFar} {f e : Instant} → ExactSoFar r → r ≡ K.Growing (record { near = f; far = e }) → Exact f × Exact e
growing-exact {r} {f} {e} x p = go (rw p at x)
  where
    go : ExactSoFar (K.Growing (record { near = f; far = e })) → Exact f × Exact e
    go h = h

pub ended-exact : {r : SoFar} {f e : Instant} → ExactSoFar r → r ≡ K.Ended (record { near = f; far = e }) → Exact f × Exact e
ended-exact {r} {f} {e} x p = go (rw p at x)
  where
    go : ExactSoFar (K.Ended (record { near = f; far = e })) → Exact f × Exact e
    go h = h
