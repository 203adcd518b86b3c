-- The working time of a window. Document 01, "Rule book" (shifts, holidays) and "Block"; engine.rs `local_dates`, workday.rs and holiday.rs
-- `blocks`, schedule.rs `working_time`.
use Rattle.std.specs.Prelude.{Bool, List, ◌++◌, map, ℕ, ◌+◌, ◌-◌, ◌/◌, leb, ltb, if◌then◌else◌}
use Rattle.model.specs.Basic.{among, filter, run, joined}
use Rattle.model.specs.Calendar.{weekday, contains, first_day, last_day}
use Rattle.model.specs.Instant.{second, day_seconds, last_instant}
use Rattle.model.specs.Offset.{offset_bias}
use Rattle.model.specs.Tzif.{Zone}
use Rattle.model.specs.Zone.{offset_at, resolve}
use Rattle.model.specs.Book.{Hours}
use Rattle.model.specs.Blocks.{Block, clipped, union, subtract}

-- what a work, break or holiday record takes of each of its dates: from a time of day to a time of day
pub record Rule : Type 0 where
  pub zone : Zone
  pub on : ℕ → Bool
  pub from : ℕ
  pub to : ℕ

-- a holiday record: its distinct dates
pub record Holidays : Type 0 where
  pub zone : Zone
  pub dates : List ℕ

pub record Schedule : Type 0 where
  pub work : List Rule
  pub breaks : List Rule
  pub holidays : List Holidays
  pub limit : ℕ

abbrev pub shift_rule : Zone → Hours → Rule
shift_rule z h = record { zone = z; on = λ d. contains h.days (weekday d); from = h.from; to = h.to }

-- "A holiday takes 00:00 to the next date's 00:00 in its own zone"
abbrev pub holiday_rule : Holidays → Rule
holiday_rule h = record { zone = h.zone; on = among h.dates; from = 0; to = 0 }

-- ---- `local_dates`

-- the local date at an instant
unfoldable pub local_day : Zone → ℕ → ℕ
local_day z t = (t / second + offset_at z (t / second) - offset_bias) / day_seconds

-- "from two dates before the local date at the window's start to one after the local date at its end instant .. If either step back fails,
-- it begins at the local date of the window's start; if the step on fails, it ends at the local date of the window's end."
unfoldable pub first_date : Zone → ℕ → ℕ
first_date z lo = let d = local_day z lo in if leb (first_day + 2) d then d - 2 else d

unfoldable pub last_date : Zone → ℕ → ℕ
last_date z hi = let d = local_day z hi in if ltb d last_day then d + 1 else d

unfoldable pub local_dates : Zone → ℕ → ℕ → List ℕ
local_dates z lo hi = let a = first_date z lo in run a (last_date z hi + 1 - a)

-- ---- the blocks of a rule in the window [lo, hi)

unfoldable pub start_of : Rule → ℕ → ℕ
start_of r d = resolve r.zone d r.from

-- "A shift with end at or before start ends on the next date; equal times make 24 hours. .. Where no next date exists, either ends at the
-- last instant."
unfoldable pub end_of : Rule → ℕ → ℕ
end_of r d =
    if ltb r.from r.to then resolve r.zone d r.to else
    if ltb d last_day then resolve r.zone (d + 1) r.to else last_instant

unfoldable pub blocks_of : ℕ → ℕ → Rule → List Block
blocks_of lo hi r = joined (map (λ d. clipped lo hi (start_of r d) (end_of r d)) (filter r.on (local_dates r.zone lo hi)))

abbrev pub blocks_of_all : ℕ → ℕ → List Rule → List Block
blocks_of_all lo hi l = joined (map (blocks_of lo hi) l)

-- work without breaks and holidays
unfoldable pub working : Schedule → ℕ → ℕ → List Block
working s lo hi = subtract (union (blocks_of_all lo hi s.work)) (union (blocks_of_all lo hi (s.breaks ++ map holiday_rule s.holidays)))

unfoldable pub workings : Unit {0}
unfolding local_day first_date last_date local_dates start_of end_of blocks_of working
workings = tt
