-- What the functions on a holiday record are asked and answer.
use Rattle.std.specs.Prelude.{ℕ, ◌≤◌, List, [], if◌then◌else◌}
use Rattle.model.specs.Basic.{is_in}
use Rattle.model.specs.Blocks.{Block}
use Rattle.model.specs.Tzif.{Zone}
use Rattle.model.specs.Working.{blocks_of, holiday_rule}
use Rattle.instant.specs.Instant.{nanos}
use Rattle.instant.specs.declared.Instant.{Instant}
use Rattle.zone.specs.Zones.{zone_is, ZoneOk}
use Rattle.rule.specs.Rules.{file_at, holidays_is}
use Rattle.rule.specs.declared.HolidayDates.{HolidayDates}
use Rattle.zone_local.specs.Dates.{piece_of, during}
use Rattle.window_dates.specs.Windows.{Window, IsLocalDates, from_day, upto_day}
use Rattle.window_dates.specs.declared.LocalDates.{LocalDates}
use Rattle.window_piece.specs.Filled.{Filled, IsFrame}
use Rattle.window_piece.specs.declared.Frame.{Frame}
use Rattle.window_holiday.specs.Ranks.{day_of_rank}

-- the zone of a record
abbrev pub holiday_zone : List ℕ → HolidayDates → Zone
holiday_zone pack c = zone_is (file_at pack c.at c.len) c.zone

-- the dates that a window of at most 14 days has in the record's zone, and their frame
abbrev pub FreeDates : List ℕ → HolidayDates → LocalDates → Frame → Instant → Instant → Type 0
FreeDates pack c days f lo hi =
    ZoneOk (file_at pack c.at c.len) c.zone × Window 14 lo hi × IsLocalDates (holiday_zone pack c) lo hi days × IsFrame days lo hi f

-- one of these dates
abbrev pub FreeDate : List ℕ → HolidayDates → LocalDates → Frame → ℕ → Instant → Instant → Type 0
FreeDate pack c days f d lo hi =
    ZoneOk (file_at pack c.at c.len) c.zone × Window 14 lo hi × IsLocalDates (holiday_zone pack c) lo hi days × IsFrame days lo hi f × (from_day days ≤ d) × (d ≤ upto_day days)

-- what the whole of a date shows of the window
abbrev pub whole_date : List ℕ → HolidayDates → Instant → Instant → ℕ → List Block
whole_date pack c lo hi d = piece_of (during (holiday_zone pack c) 0 0) (nanos lo) (nanos hi) d

-- the whole of a date was added to the first w blocks of the memory, which are now n
abbrev pub DateAdded : List ℕ → HolidayDates → Instant → Instant → ℕ → List ℕ → ℕ → List ℕ → ℕ → Type 0
DateAdded pack c lo hi d old w new n = Filled (nanos lo) old w (whole_date pack c lo hi d) 1 new n

-- the whole of the date that has the rank k was added if the window has that date
abbrev pub RankAdded : List ℕ → HolidayDates → LocalDates → Instant → Instant → ℕ → List ℕ → ℕ → List ℕ → ℕ → Type 0
RankAdded pack c days lo hi k old w new n =
    Filled (nanos lo) old w (if is_in (from_day days) (upto_day days) (day_of_rank k) then whole_date pack c lo hi (day_of_rank k) else []) 1 new n

-- the record's dates were added, at most 14 blocks
abbrev pub Closed : List ℕ → List ℕ → HolidayDates → Instant → Instant → List ℕ → ℕ → List ℕ → ℕ → Type 0
Closed book pack c lo hi old w new n = Filled (nanos lo) old w (blocks_of (nanos lo) (nanos hi) (holiday_rule (holidays_is book pack c))) 14 new n
