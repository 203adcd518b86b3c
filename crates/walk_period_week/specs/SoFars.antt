-- What the code's values mean to the definitions' search for a period.
use Rattle.std.specs.Prelude.{◌≡◌, Bool, not, List, ℕ, ltb, eqb, Option, Some, None, Result, Ok, Err}
use Rattle.model.specs.Blocks as model
use Rattle.model.specs.Walk.{nothing, growing, ended, too_far}
use Rattle.model.specs.Walk as walk
use Rattle.instant.specs.Instant.{nanos, Exact}
use Rattle.instant.specs.declared.Instant.{Instant}
use Rattle.laws_blocks.specs.Move.{moves}
use Rattle.block_pairs.specs.Pairs.{pairs}
use Rattle.refusal.specs.declared.SearchError.{SearchError}
use Rattle.walk_distance.specs.Distances.{way_of, seen}
use Rattle.walk_period_week.specs.declared.Period.{Period}
use Rattle.walk_period_week.specs.declared.SoFar.{SoFar}
use Rattle.walk_period_week.specs.declared.SoFar.TheVariants as K
use Rattle.walk_period_week.specs.declared.Tail.{Tail}
use Rattle.walk_period_week.specs.declared.Tail.TheVariants as T

-- a period that may go on, if there is one
abbrev pub so_far : Option Period → walk.PeriodSoFar
so_far (Some p) = growing (nanos p.near) (nanos p.far)
so_far None = nothing

-- what is known after a window
abbrev pub so_far_is : SoFar → walk.PeriodSoFar
so_far_is K.Nothing = nothing
so_far_is (K.Growing p) = growing (nanos p.near) (nanos p.far)
so_far_is (K.Ended p) = ended (nanos p.near) (nanos p.far)

-- the nanoseconds of a period's borders are less than a second
abbrev pub PeriodExact : Period → Type 0
PeriodExact p = Exact p.near × Exact p.far

abbrev pub KnownExact : Option Period → Type 0
KnownExact (Some p) = PeriodExact p
KnownExact None = Unit {0}

abbrev pub ExactSoFar : SoFar → Type 0
ExactSoFar K.Nothing = Unit {0}
ExactSoFar (K.Growing p) = PeriodExact p
ExactSoFar (K.Ended p) = PeriodExact p

-- a block that begins at the distance a ends the search: it does not touch the period, or it is further than the limit
abbrev pub is_stopped : ℕ → Option Period → ℕ → Bool
is_stopped limit (Some p) a = not (eqb a (nanos p.far))
is_stopped limit None a = ltb limit a

-- the nearer border of the period with a block that begins at the distance a
abbrev pub start_with : Option Period → ℕ → ℕ
start_with (Some p) a = nanos p.near
start_with None a = a

-- how far a period goes on, its start left out
abbrev pub tail_is : Tail → walk.PeriodSoFar
tail_is (T.Open e) = growing 0 e
tail_is (T.Closed e) = ended 0 e

-- the blocks of a window that is w long and begins at the distance x: the first n of l, as distances from the instant, nearest first
abbrev pub window_blocks : Bool → ℕ → Instant → ℕ → List ℕ → List model.Block
window_blocks b w x n l = moves (nanos x) (seen (way_of b) w (pairs n l))

-- r is what is known behind the blocks l, of the period before them, if there is one; there is no work where the first is too far off
abbrev pub Known : Instant → Option Period → List model.Block → Result SoFar SearchError → Type 0
Known limit k l (Ok r) = (so_far_is r ≡ walk.period_in (nanos limit) (so_far k) l) × ExactSoFar r
Known limit k l (Err e) = (e ≡ SearchError.NoWork) × (too_far ≡ walk.period_in (nanos limit) (so_far k) l)
