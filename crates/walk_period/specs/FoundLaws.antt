-- A period that is found lies in the range.
use Rattle.std.specs.Prelude.{◌≡◌, ℕ, Result, Ok}
use Rattle.model.specs.Walk.{Way}
use Rattle.instant.specs.declared.Instant.{Instant}
use Rattle.refusal.specs.declared.SearchError.{SearchError}
use Rattle.walk_period.specs.Found.{PeriodFits, FoundFits}
use Rattle.walk_period_week.specs.declared.Period.{Period}

pub period-fits : {w : Way} {t : ℕ} {r : Result Period SearchError} {f e : Instant} → FoundFits w t r → r ≡ Ok (record { near = f; far = e }) → PeriodFits w t f e
period-fits {w} {t} {r} {f} {e} x p = go (rw p at x)
  where
    go : FoundFits w t (Ok (record { near = f; far = e })) → PeriodFits w t f e
    go h = h
