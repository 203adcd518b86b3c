-- What the marks of a period's ends are.
use Rattle.std.specs.Prelude.{◌≡◌, Bool, true, List, ℕ, ◌+◌, ◌-◌, ◌≤◌, min}
use Rattle.model.specs.Blocks.{block}
use Rattle.model.specs.Instant.{week}
use Rattle.model.specs.Walk.{Way, on, back, at, reach}
use Rattle.model.specs.Marks.{plain, start_of_period, end_of_period}
use Rattle.mark.specs.Marks.{mark_number}
use Rattle.instant.specs.Instant.{nanos, InRange}
use Rattle.instant.specs.declared.Instant.{Instant}
use Rattle.rule.specs.Rules.{schedule_is}
use Rattle.rule.specs.declared.Schedule.{Schedule}
use Rattle.walk_distance.specs.Distances.{way_of, Short}
use Rattle.walk_distance.specs.declared.Ends.{Ends}
use Rattle.walk_distance.specs.Distances.{WindowPlaced}
use Rattle.window_dates.specs.Windows.{Window}
use Rattle.window_marks.specs.declared.Border.{Border}
use Rattle.window_marks.specs.declared.Marks.{Marks}

-- the distance d lies in the window that begins at the distance x, or at one of its borders, and in the range
pub record InWindow (t : Instant) (b : Bool) (x d : Instant) : Type 0 where
  pub given : InRange t
  pub begins : Short x
  pub place : Short d
  pub from : nanos x ≤ nanos d
  pub upto : nanos d ≤ nanos x + week
  pub near : nanos d ≤ reach (way_of b) (nanos t)

-- r is the instant at the distance d from t, with the window that begins at the distance x
pub record IsBorder (w : Way) (t x d : ℕ) (r : Border) : Type 0 where
  pub instant : nanos r.at ≡ at w t d
  pub in-range : InRange r.at
  pub window : Window 7 r.lo r.hi
  pub placed : WindowPlaced w t x (min (x + week) (reach w t)) (nanos r.lo) (nanos r.hi)
  pub from : x ≤ d
  pub upto : d ≤ min (x + week) (reach w t)

-- r has the marks of the period between the distances f and e from t
abbrev pub IsPeriodMarks : List ℕ → List ℕ → Schedule → Instant → Bool → Instant → Instant → Marks → Type 0
IsPeriodMarks book pack s t b f e r =
    (mark_number r.start ≡ start_of_period (way_of b) (schedule_is book pack s) (nanos t) (block (nanos f) (nanos e)))
    × (mark_number r.end ≡ end_of_period (way_of b) (schedule_is book pack s) (nanos t) (block (nanos f) (nanos e)))

-- r has the instants between which the period lies, in the range
pub data IsSpan : Way → ℕ → ℕ → ℕ → Ends → Type 0 where
  span-on : {t f e : ℕ} {r : Ends} → nanos r.lo ≡ t + f → nanos r.hi ≡ t + e → InRange r.lo → InRange r.hi → IsSpan on t f e r
  span-back : {t f e : ℕ} {r : Ends} → nanos r.lo ≡ t - e → nanos r.hi ≡ t - f → InRange r.lo → InRange r.hi → IsSpan back t f e r

-- where r is true, both ends of the period are plain
abbrev pub PlainWhere : List ℕ → List ℕ → Schedule → Instant → Bool → Instant → Instant → Bool → Type 0
PlainWhere book pack s t b f e r =
    r ≡ true
    → (plain ≡ start_of_period (way_of b) (schedule_is book pack s) (nanos t) (block (nanos f) (nanos e)))
    × (plain ≡ end_of_period (way_of b) (schedule_is book pack s) (nanos t) (block (nanos f) (nanos e)))
