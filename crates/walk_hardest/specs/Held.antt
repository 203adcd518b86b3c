-- What the walk over the windows of a log is asked and leaves. Seconds are counted from the given instant.
use Rattle.std.specs.Prelude.{◌≡◌, List, ℕ, ◌+◌, ◌*◌, ◌≤◌, ◌<◌, ltb, ℤ, length, get_or, if◌then◌else◌}
use Rattle.model.specs.Instant.{second, last_second}
use Rattle.model.specs.Working.{Schedule}
use Rattle.model.specs.Hardest as model
use Rattle.model.specs.Hardest.{most_numbers, most_width, hardest_of}
use Rattle.laws_hardest.specs.Sums.{sum_to}
use Rattle.laws_hardest.specs.Logs.{run_count, run_start, run_end, LogFits}
use Rattle.laws_hardest.specs.Windows.{log_time, windows_at}
use Rattle.instant.specs.Instant.{nanos, InRange}
use Rattle.instant.specs.declared.Instant.{Instant}
use Rattle.rule.specs.declared.Schedule as rule
use Rattle.rule.specs.Rules.{schedule_is, ScheduleFits}
use Rattle.walk_hardest.specs.declared.Held.{Held}
use Rattle.walk_hardest.specs.declared.Stretch.{Stretch}

-- the seconds from one to another lie in the range, and are no more than the widest window
pub record LogPart (t : Instant) (from to : ℕ) : Type 0 where
  pub start : InRange t
  pub order : from ≤ to
  pub short : to ≤ from + most_width
  pub inside : t.sec + to ≤ last_second

-- a log from the instant t, and a width in seconds
pub record LogAsked (t : Instant) (log : List ℤ) (w : ℕ) : Type 0 where
  pub start : InRange t
  pub fits : LogFits (nanos t) log
  pub few : length log ≤ most_numbers
  pub width : w ≤ most_width

-- its parts can be walked
abbrev pub CanWalkLog : List ℕ → List ℕ → rule.Schedule → Instant → List ℤ → ℕ → Type 0
CanWalkLog book pack s t log w = ScheduleFits book pack s × LogAsked t log w

-- ---- the runs' times

abbrev pub whole_at : List ℕ → ℕ → ℕ
whole_at whole j = get_or whole j 0

-- the working time of run j; none of a run that is longer than the width, which no window holds whole
abbrev pub whole_time : Schedule → ℕ → List ℤ → ℕ → ℕ → ℕ
whole_time s t log w j = if ltb (run_start log j + w) (run_end log j) then 0 else log_time s t (run_start log j) (run_end log j)

-- the first n of `whole` are these
abbrev pub KnownTo : Schedule → ℕ → List ℤ → ℕ → List ℕ → ℕ → Type 0
KnownTo s t log w whole n = (j : ℕ) → j < n → whole_at whole j ≡ whole_time s t log w j

pub record KnownTimes (s : Schedule) (t : ℕ) (log : List ℤ) (w : ℕ) (whole : List ℕ) : Type 0 where
  pub room : run_count log ≤ length whole
  pub each : KnownTo s t log w whole (run_count log)

-- ---- the runs that a window holds whole

-- those of a log may be summed
pub record CanHold (log : List ℤ) (w : ℕ) (whole : List ℕ) : Type 0 where
  pub fits : LogFits 0 log
  pub width : w ≤ most_width
  pub room : run_count log ≤ length whole
  pub short : (j : ℕ) → j < run_count log → whole_at whole j + run_start log j * second ≤ run_end log j * second

-- the window that starts with run i holds the runs up to the next one whole, and this is the sum of their times
pub record HoldsRuns (log : List ℤ) (w : ℕ) (times : List ℕ) (i : ℕ) (h : Held) : Type 0 where
  pub from : i ≤ h.next
  pub to : h.next ≤ run_count log
  pub whole : (j : ℕ) → i ≤ j → j < h.next → run_end log j ≤ run_start log i + w
  pub sum : h.time + sum_to (whole_at times) i ≡ sum_to (whole_at times) h.next

-- so it is, and the window's ends can go on
abbrev pub CanGoOn : List ℤ → ℕ → List ℕ → ℕ → Held → Type 0
CanGoOn log w whole i h = CanHold log w whole × (i < run_count log) × HoldsRuns log w whole i h

-- it holds no more of them
abbrev pub HoldsNoMore : List ℤ → ℕ → ℕ → ℕ → Type 0
HoldsNoMore log w i k = k < run_count log → run_start log i + w < run_end log k

-- a window that starts with run i, and the run k behind those that it holds whole
pub record PartAsked (log : List ℤ) (w i k : ℕ) : Type 0 where
  pub inside : i < run_count log
  pub from : i ≤ k
  pub to : k ≤ run_count log
  pub ends : HoldsNoMore log w i k

-- the time of its part of run k
abbrev pub part_of : Schedule → ℕ → List ℤ → ℕ → ℕ → ℕ → ℕ
part_of s t log w i k = if ltb k (run_count log) then log_time s t (run_start log k) (run_start log i + w) else 0

-- ---- the windows

-- a window's time and its start, an instant
abbrev pub stretch_is : ℕ → Stretch → model.Stretch
stretch_is t r = record { time = r.time; start = t + r.start * second }

-- x is the start of the first one, or 0
abbrev pub FirstStart : List ℤ → ℕ → Type 0
FirstStart log x = (run_count log ≡ 0 → x ≡ 0) × (0 < run_count log → x ≡ run_start log 0)

-- the later of two only where it has more time
abbrev pub harder_of : Stretch → ℕ → ℕ → Stretch
harder_of best time start = if ltb best.time time then record { time = time; start = start } else best

-- the hardest one
abbrev pub hardest_in : Schedule → ℕ → List ℤ → ℕ → model.Stretch
hardest_in s t log w = hardest_of t (windows_at s t log w)

-- and r is it
abbrev pub FindsHardest : List ℕ → List ℕ → rule.Schedule → Instant → List ℤ → ℕ → Stretch → Type 0
FindsHardest book pack s t log w r = stretch_is (nanos t) r ≡ hardest_in (schedule_is book pack s) (nanos t) log w
