-- What a search is asked and answers.
use Rattle.std.specs.Prelude.{◌≡◌, Bool, true, false, ◌&&◌, List, ℕ, ◌+◌, ◌*◌, ◌-◌, ◌≤◌, ◌<◌, min, eqb, ltb, if◌then◌else◌, Option, Some, None, Result, Ok, Err}
use Rattle.model.specs.Answer.{Answer, gives, refuses}
use Rattle.model.specs.Instant.{second, week}
use Rattle.model.specs.Walk.{Way, at, reach, search}
use Rattle.model.specs.Working as model
use Rattle.model.specs.Skip.{repeats, needed_search}
use Rattle.laws_skip.specs.Skips.{Previous, fresh, known, may_skip}
use Rattle.refusal.specs.declared.SearchError.{SearchError}
use Rattle.instant.specs.Instant.{nanos, most, Exact, InRange}
use Rattle.instant.specs.declared.Instant.{Instant}
use Rattle.rule.specs.Rules.{ScheduleFits}
use Rattle.rule.specs.declared.Schedule.{Schedule}
use Rattle.walk_distance.specs.Distances.{way_of, Short, WindowWithin}
use Rattle.walk_distance.specs.declared.Run.{Run}
use Rattle.walk_search.specs.declared.Reached.{Reached}

-- what is kept of a window: its time, where it is whole and has working time; work last ended so far before its end
abbrev pub previous_is : Option Instant → ℕ → Previous
previous_is None idle = fresh
previous_is (Some time) idle = known (nanos time) idle

abbrev pub keep_of : ℕ → Instant → Option Instant
keep_of w time = if eqb w week && ltb 0 (nanos time) then Some time else None

abbrev pub KeptExact : Option Instant → Type 0
KeptExact None = Unit {0}
KeptExact (Some time) = Exact time

-- the windows of a run, and at least one, are alike from the distance x on, and take less than what is left
pub record Skipped (left : ℕ) (rep : ℕ → Bool) (x end : ℕ) (r : Run) : Type 0 where
  pub some : 0 < r.count
  pub less : r.count * nanos r.time < left
  pub each : (i : ℕ) → i < r.count → rep (x + i * week) ≡ true
  pub inside : x + r.count * week ≤ end

-- the distances x and `end` from t between which windows may be skipped in a search, with so much left to find
abbrev pub SkipAsked : Instant → Bool → Option Instant → Instant → Instant → Instant → Type 0
SkipAsked t back k left x end =
    InRange t × Short x × Short end × (nanos x ≤ nanos end) × (nanos end ≤ reach (way_of back) (nanos t)) × KeptExact k × (nanos left < most)

-- windows may be skipped there, which have the time that is kept; and there is none only if the first may not
abbrev pub SkippedFrom : model.Schedule → Instant → Bool → Option Instant → Instant → Instant → Instant → Option Run → Type 0
SkippedFrom s t back k left x end None =
    (idle : ℕ) → may_skip (previous_is k idle) (nanos left) (eqb (min (nanos x + week) (nanos end) - nanos x) week && repeats s (at (way_of back) (nanos t) (nanos x))) ≡ false
SkippedFrom s t back k left x end (Some r) =
    (k ≡ Some r.time) × Skipped (nanos left) (λ y. repeats s (at (way_of back) (nanos t) y)) (nanos x) (nanos end) r

-- the search limit of a schedule in nanoseconds
abbrev pub IsLimit : Schedule → ℕ → Type 0
IsLimit s limit = limit ≡ s.limit * second

-- the window between the distances x and y from t, where work last ended no more than the limit before x, with so much left to find
abbrev pub InWindow : List ℕ → List ℕ → Schedule → ℕ → Instant → Bool → Instant → Instant → Instant → Instant → Type 0
InWindow book pack s limit t back x y last left =
    ScheduleFits book pack s × WindowWithin t back x y
    × Exact last × (nanos left < most) × Exact left × (nanos last ≤ nanos x) × (nanos x ≤ nanos last + s.limit * second) × IsLimit s limit

-- d is to find from t, and not nothing
abbrev pub ToFind : Schedule → ℕ → Instant → Instant → Type 0
ToFind s limit t d = InRange t × (0 < nanos d) × (nanos d < most) × Exact d × IsLimit s limit

-- the answer of a search
abbrev pub reached_is : Result Reached SearchError → Answer ℕ
reached_is (Ok r) = gives (nanos r.distance)
reached_is (Err SearchError.NoWork) = refuses 6 0
reached_is (Err SearchError.RangeEnds) = refuses 7 0

-- of an answer that is found: its count of windows, and nanoseconds below a second
abbrev pub Counts : Way → model.Schedule → ℕ → ℕ → Result Reached SearchError → Type 0
Counts w s t d (Ok r) = Exact r.distance × (r.windows ≡ needed_search w s t d (nanos r.distance))
Counts w s t d (Err e) = Unit {0}

-- the answer is that of the definitions
abbrev pub SearchAnswered : Way → model.Schedule → Instant → Instant → Result Reached SearchError → Type 0
SearchAnswered w s t d r = (reached_is r ≡ search w s (nanos t) (nanos d)) × Counts w s (nanos t) (nanos d) r
