-- What the functions on a window are asked and answer.
use Rattle.std.specs.Prelude.{◌≡◌, List, ℕ, ◌+◌, ◌*◌, ◌-◌, ◌/◌, ◌≤◌, ◌<◌}
use Rattle.model.specs.Calendar.{first_day, last_day}
use Rattle.model.specs.DayNumber.{day_of}
use Rattle.laws_calendar.specs.Numbers.{IsDayNumber}
use Rattle.model.specs.Blocks.{Block}
use Rattle.model.specs.Instant.{day, day_seconds}
use Rattle.model.specs.Tzif.{Zone}
use Rattle.model.specs.Working.{first_date, last_date, blocks_of}
use Rattle.civil.specs.Dates.{calendar_days}
use Rattle.instant.specs.Instant.{nanos, InRange}
use Rattle.instant.specs.declared.Instant.{Instant}
use Rattle.zone_local.specs.Dates.{KeepsOffset, piece_of}
use Rattle.rule.specs.Rules.{rule_is, RuleFits}
use Rattle.rule.specs.declared.Rule.{Rule}
use Rattle.window_dates.specs.declared.LocalDates.{LocalDates}
use Rattle.model.specs.Offset.{offset_bias, greatest_offset}

-- a window of at most k days inside the range
pub record Window (k : ℕ) (lo hi : Instant) : Type 0 where
  pub low : InRange lo
  pub high : InRange hi
  pub order : nanos lo ≤ nanos hi
  pub short : nanos hi ≤ nanos lo + k * day

-- how many dates a window of 14 days has at most
abbrev pub most_window_dates : ℕ
most_window_dates = 21

-- the first and the last of them as days
abbrev pub from_day : LocalDates → ℕ
from_day d = day_of d.first

abbrev pub upto_day : LocalDates → ℕ
upto_day d = day_of d.last

-- the dates of a window, at most 21 of the years -9999 to 9999
pub record IsLocalDates (z : Zone) (lo hi : Instant) (d : LocalDates) : Type 0 where
  pub first-is : from_day d ≡ first_date z (nanos lo)
  pub last-is : upto_day d ≡ last_date z (nanos hi)
  pub low : first_day ≤ from_day d
  pub high : upto_day d ≤ last_day
  pub few : upto_day d + 1 ≤ from_day d + most_window_dates
  pub first-number : IsDayNumber d.first
  pub first_below : from_day d < calendar_days
  pub last-number : IsDayNumber d.last
  pub kept : KeepsOffset z (nanos lo) (nanos hi) d.offset

-- the local date at t by the offset o
abbrev pub day_by : ℕ → Instant → ℕ
day_by o t = (t.sec + o - offset_bias) / day_seconds

-- the seconds of the instants that are four days from the ends of the range
abbrev pub from_second : ℕ
from_second = 12654842399

abbrev pub upto_second : ℕ
upto_second = 643761381600

-- the offset o, and a window with four days of the range on either side
abbrev pub OffsetHolds : ℕ → Instant → Instant → Type 0
OffsetHolds o lo hi = (o ≤ greatest_offset) × (from_second ≤ lo.sec) × (lo.sec ≤ hi.sec) × (hi.sec ≤ upto_second)

-- ---- a rule

-- a rule, and a date that a window of at most 14 days has in its zone
abbrev pub RuleDate : List ℕ → Rule → LocalDates → ℕ → Instant → Instant → Type 0
RuleDate pack r days d lo hi =
    RuleFits pack r × Window 14 lo hi × IsLocalDates (rule_is pack r).zone lo hi days × (from_day days ≤ d) × (d ≤ upto_day days)

-- what the rule shows of a date in the window
abbrev pub rule_piece : List ℕ → Rule → Instant → Instant → ℕ → List Block
rule_piece pack r lo hi d = piece_of (rule_is pack r) (nanos lo) (nanos hi) d

-- what the rule has in the window
abbrev pub rule_blocks : List ℕ → Rule → Instant → Instant → List Block
rule_blocks pack r lo hi = blocks_of (nanos lo) (nanos hi) (rule_is pack r)
