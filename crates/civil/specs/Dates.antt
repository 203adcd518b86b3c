-- What the code's dates mean: the definitions' dates, with an answer where there is none.
use Rattle.std.specs.Prelude.{◌&&◌, ℕ, ◌+◌, ◌*◌, ◌<◌, ltb, ℤ, if◌then◌else◌, Option, Some, None}
use Rattle.model.specs.DayNumber.{signed_day, day_of}
use Rattle.laws_calendar.specs.Numbers.{IsDayNumber}
use Rattle.model.specs.Calendar as M
use Rattle.model.specs.Calendar.{is_date, day_number}
use Rattle.model.specs.Instant.{second, day_seconds}
use Rattle.civil.specs.declared.Date.{Date}
use Rattle.civil.specs.declared.Time.{Time}

-- the calendar's years are those below this one: fifty-two times 400 years, from -10400 on
abbrev pub calendar_years : ℕ
calendar_years = 20800

-- their days
abbrev pub calendar_days : ℕ
calendar_days = 7597044

-- the number of one of them
pub record InCalendar (z : ℤ) : Type 0 where
  pub number : IsDayNumber z
  pub below : day_of z < calendar_days

-- books write a year in two bytes as a signed number; this added to a year is that number with 2^15 added
abbrev pub year_bias : ℕ
year_bias = 22368

-- a date of the definitions as one of the code
abbrev pub dated : M.Date → Date
dated d = record { year = d.year; month = d.month; day = d.day }

-- the day of a date
unfoldable pub day_read : Date → Option ℤ
day_read d = if is_date d.year d.month d.day then Some (signed_day (day_number d.year d.month d.day)) else None

-- a time of day in nanoseconds. Document 01: "Time of day: second 0 to 86,399 and nanoseconds."
unfoldable pub time_read : ℕ → ℕ → Option ℕ
time_read s n = if ltb s day_seconds && ltb n second then Some (s * second + n) else None

-- a time of day in nanoseconds
abbrev pub time_in : Time → ℕ
time_in t = t.seconds * second + t.nanos

-- a time of day: "second 0 to 86,399 and nanoseconds"
pub record TimeFits (t : Time) : Type 0 where
  pub seconds : t.seconds < day_seconds
  pub nanos : t.nanos < second
