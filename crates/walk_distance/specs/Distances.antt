-- What the functions on the windows of a walk are asked and answer.
use Rattle.std.specs.Prelude.{◌≡◌, Bool, true, false, List, ◌∷◌, ℕ, ◌+◌, ◌*◌, ◌-◌, ◌≤◌, ◌<◌}
use Rattle.model.specs.Blocks.{Block, block}
use Rattle.model.specs.Instant.{week}
use Rattle.model.specs.Walk.{Way, on, back, reach, ahead, backward}
use Rattle.laws_blocks.specs.Move.{moves}
use Rattle.laws_skip.specs.WindowEnds.{Inside}
use Rattle.instant.specs.Instant.{nanos, Exact, InRange}
use Rattle.instant.specs.declared.Instant.{Instant}
use Rattle.rule.specs.Rules.{schedule_is, ScheduleFits}
use Rattle.rule.specs.declared.Schedule.{Schedule}
use Rattle.window_dates.specs.Windows.{Window}
use Rattle.block_pairs.specs.Pairs.{part, pairs}
use Rattle.window_week.specs.Room.{records, HasRoom}
use Rattle.walk_distance.specs.declared.Ends.{Ends}
use Rattle.walk_distance.specs.declared.NearBlock.{NearBlock}

-- the way of a walk: back where the flag is set
abbrev pub way_of : Bool → Way
way_of true = back
way_of false = on

-- more seconds than the range has, counted from -10400 on
abbrev pub range_seconds : ℕ
range_seconds = 1000000000000

-- more weeks than it has
abbrev pub most_weeks : ℕ
most_weeks = 2000000

-- a length of time that is short of the range, its nanoseconds below a second
pub record Short (x : Instant) : Type 0 where
  pub sec : x.sec < range_seconds
  pub ns : Exact x

-- a window between two distances from t
pub record WindowAhead (w : Way) (t : ℕ) (x y : Instant) : Type 0 where
  pub start : Short x
  pub end : Short y
  pub order : nanos x ≤ nanos y
  pub near : nanos y ≤ reach w t
  pub short : nanos y ≤ nanos x + week

-- a window between two distances from an instant of the range, going on or back
abbrev pub WindowWithin : Instant → Bool → Instant → Instant → Type 0
WindowWithin t b x y = InRange t × WindowAhead (way_of b) (nanos t) x y

-- such a window of a schedule that fits, and memory for its blocks
abbrev pub WindowReady : List ℕ → List ℕ → Schedule → Instant → Bool → Instant → Instant → ℕ → Type 0
WindowReady book pack s t b x y n = ScheduleFits book pack s × WindowWithin t b x y × HasRoom s n

-- the window between the distances x and y from t lies from lo to hi
pub data WindowPlaced : Way → ℕ → ℕ → ℕ → ℕ → ℕ → Type 0 where
  placed_on : {t x y lo hi : ℕ} → lo ≡ t + x → hi ≡ t + y → WindowPlaced on t x y lo hi
  placed-back : {t x y lo hi : ℕ} → y ≤ t → lo ≡ t - y → hi ≡ t - x → WindowPlaced back t x y lo hi

-- it lies there, in the range
abbrev pub PlacedAt : Way → ℕ → ℕ → ℕ → Ends → Type 0
PlacedAt w t x y r = Window 7 r.lo r.hi × WindowPlaced w t x y (nanos r.lo) (nanos r.hi)

-- the blocks of a window of the length w by their distances from its near border, nearest first; they are given by their distances from its start
abbrev pub seen : Way → ℕ → List Block → List Block
seen on w l = l
seen back w l = backward w l

-- the first n blocks of `out` are those of the window between the distances x and y from t, as distances from its start; a record gives at most 14
abbrev pub ResolvedAt : List ℕ → List ℕ → Schedule → Instant → Bool → Instant → Instant → ℕ → List ℕ → Type 0
ResolvedAt book pack s t b x y n out =
    (moves (nanos x) (seen (way_of b) (nanos y - nanos x) (pairs n out)) ≡ ahead (way_of b) (schedule_is book pack s) (nanos t) (nanos x) (nanos y))
    × Inside 0 (nanos y - nanos x) (pairs n out) × (n ≤ 14 * records s)

-- those of the first n blocks that are left behind the i nearest
unfoldable pub rest : Way → ℕ → ℕ → ℕ → List ℕ → List Block
rest on w n i l = part i (n - i) l
rest back w n i l = backward w (pairs (n - i) l)

-- r is the nearest of the first n blocks behind the i nearest
abbrev pub IsNearest : Bool → ℕ → ℕ → ℕ → List ℕ → NearBlock → Type 0
IsNearest b w n i l r = rest (way_of b) w n i l ≡ block r.from r.to ∷ rest (way_of b) w n (i + 1) l
