-- What the test of one day answers.
use Rattle.std.specs.Prelude.{Bool, ◌&&◌, ℕ, eqb, ℤ, pos, negsuc}
use Rattle.std.specs.Int.Signed.{le_z}
use Rattle.model.specs.Calendar.{Date, date_of, weekday}
use Rattle.model.specs.DayNumber.{day_of}

-- a day of the years -10002 to 10003
abbrev pub is_asked : ℤ → Bool
is_asked z = le_z (negsuc 4372682) z && le_z z (pos 2934357)

-- a date is this year, month and day
abbrev pub is_this : Date → ℕ → ℕ → ℕ → Bool
is_this date y m d = eqb date.year y && (eqb date.month m && eqb date.day d)

-- the day that has the number z has this weekday and this date
unfoldable pub is_date_of : ℤ → ℕ → ℕ → ℕ → ℕ → Bool
is_date_of z w y m d = is_asked z && (eqb (weekday (day_of z)) w && is_this (date_of (day_of z)) y m d)
