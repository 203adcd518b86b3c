-- What the walk for a period answers.
use Rattle.std.specs.Prelude.{◌≡◌, Bool, List, ℕ, ◌+◌, ◌≤◌, ◌<◌, min, Result, Ok, Err}
use Rattle.std.proofs.Common.{arith}
use Rattle.model.specs.Answer.{Answer, gives, refuses}
use Rattle.model.specs.Blocks.{Block, block}
use Rattle.model.specs.Walk.{Way, on, back, reach, period}
use Rattle.instant.specs.Instant.{nanos, Exact, InRange}
use Rattle.instant.specs.declared.Instant.{Instant}
use Rattle.refusal.specs.declared.SearchError.{SearchError}
use Rattle.rule.specs.declared.Schedule.{Schedule}
use Rattle.rule.specs.Rules.{schedule_is}
use Rattle.walk_distance.specs.Distances.{way_of, Short}
use Rattle.walk_period_week.specs.declared.Period.{Period}

-- the period r is p, its further border at most the limit from its nearer one
abbrev pub IsCut : ℕ → Period → Period → Type 0
IsCut limit p r = (nanos r.near ≡ nanos p.near) × (nanos r.far ≡ min (nanos p.far) (nanos p.near + limit)) × Exact r.near × Exact r.far

-- the answer of the walk
abbrev pub found_is : Result Period SearchError → Answer Block
found_is (Ok p) = gives (block (nanos p.near) (nanos p.far))
found_is (Err SearchError.NoWork) = refuses 6 0
found_is (Err SearchError.RangeEnds) = refuses 7 0

-- two distances in the range, in order, their nanoseconds below a second
pub record PeriodFits (w : Way) (t : ℕ) (f e : Instant) : Type 0 where
  pub start-ns : Exact f
  pub end-ns : Exact e
  pub order : nanos f ≤ nanos e
  pub near : nanos e ≤ reach w t

-- a period that is found lies in the range
abbrev pub FoundFits : Way → ℕ → Result Period SearchError → Type 0
FoundFits w t (Ok p) = PeriodFits w t p.near p.far
FoundFits w t (Err e) = Unit {0}

-- ---- both are short of the range

reach-short : (w : Way) (t : Instant) → InRange t → reach w (nanos t) < 1000000000000000000000
reach-short on t h = omega arith
reach-short back t h = let x = h.high in let y = h.ns in omega arith

module _ {w : Way} {f e : Instant} where
  pub near-short : (t : Instant) → InRange t → PeriodFits w (nanos t) f e → Short f
  near-short t h p = let r = reach-short w t h in let x = p.order in let y = p.near in record { sec = omega arith; ns = p.start-ns }

  pub far-short : (t : Instant) → InRange t → PeriodFits w (nanos t) f e → Short e
  far-short t h p = let r = reach-short w t h in let y = p.near in record { sec = omega arith; ns = p.end-ns }

-- ---- the walk's answer

-- r is the nearest period to t, going on or back
abbrev pub FindsPeriod : List ℕ → List ℕ → Schedule → Instant → Bool → Result Period SearchError → Type 0
FindsPeriod book pack s t b r =
    (found_is r ≡ period (way_of b) (schedule_is book pack s) (nanos t)) × FoundFits (way_of b) (nanos t) r
