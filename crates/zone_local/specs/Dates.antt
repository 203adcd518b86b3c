-- What the functions on one date are asked and answer.
use Rattle.std.specs.Prelude.{true, ◌≡◌, ◌⊎◌, ℕ, ◌+◌, ◌*◌, ◌-◌, ◌/◌, ◌≤◌, ◌<◌, ltb, List, [], if◌then◌else◌}
use Rattle.model.specs.Calendar.{first_day, last_day, day_of_year_zero}
use Rattle.model.specs.Instant.{second, day, day_seconds, first_instant, last_instant}
use Rattle.model.specs.Offset.{offset_bias, greatest_offset}
use Rattle.model.specs.Zone.{resolve}
use Rattle.model.specs.Marks.{resolve_mark, mark_by_end}
use Rattle.mark.specs.Marks.{mark_number}
use Rattle.model.specs.Tzif.{Zone}
use Rattle.model.specs.Blocks.{Block, put, clipped}
use Rattle.model.specs.Working.{Rule, first_date, last_date, start_of, end_of}
use Rattle.block.specs.declared.Block.{Block as Item}
use Rattle.laws_demand3.specs.Local.{offset_nanos}
use Rattle.laws_skip.specs.Steady.{less}
use Rattle.civil.specs.Dates.{time_in, TimeFits}
use Rattle.civil.specs.declared.Time.{Time}
use Rattle.zone.specs.Zones.{zone_is, ZoneOk}
use Rattle.zone.specs.declared.Zone.{Zone as CodeZone}
use Rattle.instant.specs.Instant.{nanos, InRange}
use Rattle.instant.specs.declared.Instant.{Instant}
use Rattle.zone_tzif.specs.declared.OffsetBounds.{OffsetBounds}
use Rattle.zone_local.specs.declared.MarkedInstant.{MarkedInstant}

-- a date of the years -9999 to 9999
pub record IsDay (d : ℕ) : Type 0 where
  pub low : first_day ≤ d
  pub high : d ≤ last_day

-- what `resolve` gives for a date whose local time is beyond the range
unfoldable pub range_end : ℕ → ℕ
range_end d = if ltb d day_of_year_zero then first_instant else last_instant

-- a rule that takes, of every date, from a time of day to a time of day
abbrev pub during : Zone → ℕ → ℕ → Rule
during z from to = record { zone = z; on = λ d. true; from = from; to = to }

-- the same, for a zone and times of the code
abbrev pub rule_of : List ℕ → CodeZone → Time → Time → Rule
rule_of f z from to = during (zone_is f z) (time_in from) (time_in to)

-- what is asked of a rule's date: an open zone, a date of the range, and times of a day
abbrev pub AskedDate : List ℕ → CodeZone → ℕ → Time → Time → Type 0
AskedDate f z d from to = ZoneOk f z × IsDay d × TimeFits from × TimeFits to

-- b is what the rule takes of the date d
abbrev pub IsTaken : Rule → ℕ → Item → Type 0
IsTaken r d b = (nanos b.start ≡ start_of r d) × (nanos b.end ≡ end_of r d)

-- m is the instant of a local time, in the range, with its mark
abbrev pub IsResolved : Zone → ℕ → ℕ → MarkedInstant → Type 0
IsResolved z d time m = (nanos m.at ≡ resolve z d time) × InRange m.at × (mark_number m.mark ≡ resolve_mark z d time)

-- m is the end of what the rule takes of the date d, with its mark
abbrev pub IsEnd : Rule → ℕ → MarkedInstant → Type 0
IsEnd r d m = (nanos m.at ≡ end_of r d) × (mark_number m.mark ≡ mark_by_end r d)

-- ---- a date that is looked at from instants

-- a date, the times of day between which a rule takes it, bounds of offsets, and two instants
pub record TouchAsked (bounds : OffsetBounds) (from to : Time) (d : ℕ) (a b : Instant) : Type 0 where
  pub is-day : IsDay d
  pub from-fits : TimeFits from
  pub to-fits : TimeFits to
  pub least : bounds.least ≤ greatest_offset
  pub greatest : bounds.greatest ≤ greatest_offset
  pub from_in : InRange a
  pub upto-in : InRange b

-- the local second of a time of day on a date, with offset_bias added
abbrev pub local_second : ℕ → ℕ → ℕ
local_second d time = d * day_seconds + time / second + offset_bias

-- the end's time of day, counted from the start's date
unfoldable pub till_time : ℕ → ℕ → ℕ
till_time from to = if ltb from to then to else to + day

-- what is taken of the date d starts behind b even by the greatest offset, or ends before a even by the least
abbrev pub Apart : OffsetBounds → Time → Time → ℕ → Instant → Instant → Type 0
Apart bounds from to d a b =
    (b.sec + bounds.greatest < local_second d (time_in from)) ⊎ (local_second d (till_time (time_in from) (time_in to)) < a.sec + bounds.least)

-- what a rule shows of a date in the window [lo, hi)
unfoldable pub piece_of : Rule → ℕ → ℕ → ℕ → List Block
piece_of r lo hi d = clipped lo hi (start_of r d) (end_of r d)

-- a block of the code, if it holds anything
unfoldable pub held : Item → List Block
held b = put (nanos b.start) (nanos b.end) []

-- ---- a window whose zone keeps one offset from four days before it to four days after it

-- o is that offset, or 0 where none is known
pub record KeepsOffset (z : Zone) (lo hi o : ℕ) : Type 0 where
  pub low : 0 < o → first_instant + 4 * day ≤ lo
  pub high : 0 < o → hi + 4 * day ≤ last_instant
  pub same : 0 < o → (u : ℕ) → lo - 4 * day ≤ u → u ≤ hi + 4 * day → offset_nanos z u ≡ o * second

-- b is what a rule takes of the date d by the offset o: the local times less the offset
abbrev pub IsTakenBy : ℕ → Time → Time → ℕ → Item → Type 0
IsTakenBy o from to d b =
    (nanos b.start ≡ less (o * second) d (time_in from)) × (nanos b.end ≡ less (o * second) d (till_time (time_in from) (time_in to)))

-- d is a date of the window
pub record IsIn (z : Zone) (lo hi : Instant) (d : ℕ) : Type 0 where
  pub order : nanos lo ≤ nanos hi
  pub first : first_date z (nanos lo) ≤ d
  pub last : d ≤ last_date z (nanos hi)

-- what is asked of a rule's date in a window: the date, the offset that the zone keeps there, and that it is one of the window's dates
abbrev pub AskedPiece : List ℕ → CodeZone → ℕ → Time → Time → ℕ → Instant → Instant → Type 0
AskedPiece f z o from to d lo hi =
    ZoneOk f z × IsDay d × TimeFits from × TimeFits to × KeepsOffset (zone_is f z) (nanos lo) (nanos hi) o × IsIn (zone_is f z) lo hi d
