-- What a schedule by value means: with the bytes of book and pack it is a schedule of the definitions.
use Rattle.std.specs.Prelude.{List, [], ◌∷◌, map, ℕ, ◌+◌, ◌*◌, ◌≤◌, ◌<◌, length, take, drop}
use Rattle.model.specs.Basic.{distinct}
use Rattle.model.specs.Instant.{second}
use Rattle.model.specs.Working as model
use Rattle.laws_skip.specs.Books.{BuiltWell}
use Rattle.book_dates.specs.Days.{dates_at}
use Rattle.book.specs.Limits.{most_work, most_breaks, most_holidays}
use Rattle.book.specs.Meaning.{weekday_sets}
use Rattle.civil.specs.Dates.{time_in, TimeFits}
use Rattle.zone.specs.Zones.{zone_is, ZoneOk}
use Rattle.rule.specs.declared.Rule.{Rule}
use Rattle.rule.specs.declared.HolidayDates.{HolidayDates}
use Rattle.rule.specs.declared.Schedule.{Schedule}
use Rattle.laws_base.specs.Every.{Every}

-- a part of the pack
abbrev pub file_at : List ℕ → ℕ → ℕ → List ℕ
file_at p at len = take len (drop at p)

-- a rule, the dates of a holiday record, and a schedule
abbrev pub rule_is : List ℕ → Rule → model.Rule
rule_is p r =
    model.shift_rule (zone_is (file_at p r.at r.len) r.zone) (record { days = r.days; from = time_in r.from; to = time_in r.to })

abbrev pub holidays_is : List ℕ → List ℕ → HolidayDates → model.Holidays
holidays_is b p c = record { zone = zone_is (file_at p c.at c.len) c.zone; dates = distinct (dates_at b c.dates c.count) }

abbrev pub schedule_is : List ℕ → List ℕ → Schedule → model.Schedule
schedule_is b p s = record {
  work = map (rule_is p) (take s.works s.work);
  breaks = map (rule_is p) (take s.pauses s.breaks);
  holidays = map (holidays_is b p) (take s.closings s.closed);
  limit = s.limit * second;
}

-- ---- what the rules of a built schedule have

-- the longest search limit in seconds: 366 days, and 7 days for each of 512 dates
abbrev pub most_limit : ℕ
most_limit = 341280000

-- of a rule
pub record RuleFits (p : List ℕ) (r : Rule) : Type 0 where
  pub opened : ZoneOk (file_at p r.at r.len) r.zone
  pub days : r.days < weekday_sets
  pub from : TimeFits r.from
  pub to : TimeFits r.to

-- of a holiday record
pub record HolidaysFit (b p : List ℕ) (c : HolidayDates) : Type 0 where
  pub opened : ZoneOk (file_at p c.at c.len) c.zone
  pub inside : c.dates + 4 * c.count ≤ length b

-- of a schedule
pub record ScheduleFits (b p : List ℕ) (s : Schedule) : Type 0 where
  pub works : s.works ≤ most_work
  pub pauses : s.pauses ≤ most_breaks
  pub closings : s.closings ≤ most_holidays
  pub work-fits : Every (RuleFits p) (take s.works s.work)
  pub breaks-fit : Every (RuleFits p) (take s.pauses s.breaks)
  pub closed-fits : Every (HolidaysFit b p) (take s.closings s.closed)
  -- what every book within the limits makes: the search limit is 366 to 3,950 days, among other things
  pub well : BuiltWell (schedule_is b p s)
  pub limit : s.limit ≤ most_limit
