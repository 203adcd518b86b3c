-- What a window leaves of a search, as the code has it and as the definitions have it.
use Rattle.std.specs.Prelude.{◌≡◌, ℕ, Result, Ok, Err}
use Rattle.model.specs.Walk.{Way, ahead, search_blocks}
use Rattle.model.specs.Walk as walk
use Rattle.model.specs.Working.{Schedule}
use Rattle.instant.specs.Instant.{nanos, Exact}
use Rattle.instant.specs.declared.Instant.{Instant}
use Rattle.refusal.specs.declared.SearchError.{SearchError}
use Rattle.walk_search_week.specs.Steps.{week_step_is, step_after, with_left}
use Rattle.walk_search_week.specs.declared.WeekStep.{WeekStep}
use Rattle.walk_search.specs.declared.Step.{Step}
use Rattle.walk_search.specs.declared.Step.TheVariants as S

-- what a window leaves
abbrev pub step_is : Step → walk.Step
step_is (S.Found z) = walk.found (nanos z)
step_is (S.Left d m) = walk.left (nanos d) (nanos m)

-- its nanoseconds are less than a second
abbrev pub ExactStep : Step → Type 0
ExactStep (S.Found z) = Exact z
ExactStep (S.Left d m) = Exact d × Exact m

-- what a window leaves, with k more to find than was looked for, by distances from `last` on
abbrev pub Further : ℕ → ℕ → WeekStep → Step → Type 0
Further last k r x = (step_is x ≡ step_after last (with_left k (week_step_is r))) × ExactStep x

-- the answer is what the definitions say that the window between the distances x and y from t leaves: there is no work where a gap is too long
abbrev pub Leaves : Schedule → Way → Instant → Instant → Instant → Instant → Instant → Result Step SearchError → Type 0
Leaves s w t x y last left (Ok r) =
    (step_is r ≡ search_blocks s.limit (nanos y) (nanos last) (nanos left) (ahead w s (nanos t) (nanos x) (nanos y))) × ExactStep r
Leaves s w t x y last left (Err e) =
    (e ≡ SearchError.NoWork) × (walk.gap ≡ search_blocks s.limit (nanos y) (nanos last) (nanos left) (ahead w s (nanos t) (nanos x) (nanos y)))
