-- What the code makes of the numbers of a local time before it asks whether they are a date and a time of day.
use Rattle.std.specs.Prelude.{ℕ, min, ℤ, pos, negsuc, Option, Some, None}
use Rattle.model.specs.Answer.{Answer, gives, refuses}
use Rattle.model.specs.DayNumber.{day_of}

-- the year 0 counted from -10400; and the first year, month and day that there is not
abbrev pub year_zero : ℕ
year_zero = 10400

abbrev pub year_after : ℕ
year_after = 20800

abbrev pub month_after : ℕ
month_after = 13

abbrev pub day_after : ℕ
day_after = 32

-- the number, and the cap where it is below 0 or beyond the cap
unfoldable pub clipped_to : ℤ → ℕ → ℕ
clipped_to (pos n) cap = min n cap
clipped_to (negsuc n) cap = cap

-- the day that was read, or the refusal
abbrev pub day_answer : Option ℤ → Answer ℕ
day_answer (Some z) = gives (day_of z)
day_answer None = refuses 8 0
