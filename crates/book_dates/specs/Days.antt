-- Dates as they are written in a list of bytes, one behind the other.
use Rattle.std.specs.Prelude.{Bool, true, ◌≡◌, List, [], ◌∷◌, ℕ, zero, suc, ◌+◌, ◌*◌, ◌-◌, ◌%◌, ◌≤◌, length, get_or, take, drop, if◌then◌else◌}
use Rattle.big_endian.specs.Be.{two_bytes, be16}
use Rattle.big_endian.specs.Maybe.{is_some}
use Rattle.civil.specs.declared.Date.{Date}
use Rattle.model.specs.Basic.{each}
use Rattle.model.specs.Book.{date_in}
use Rattle.model.specs.Bytes.{pieces}
use Rattle.model.specs.Calendar.{is_date, day_number}
use Rattle.civil.specs.Dates.{year_bias, day_read}
use Rattle.std.specs.Prelude.{Option, Some, None, ℤ}

-- of the numbers that two bytes can hold, how many are negative where they have a sign
abbrev pub negatives : ℕ
negatives = 32768

-- the year that two bytes say, counted from -10400; 0 for those before
abbrev pub year_in_bytes : ℕ → ℕ
year_in_bytes n = (n + negatives) % two_bytes - year_bias

-- the year written at p
unfoldable pub written_year : List ℕ → ℕ → ℕ
written_year b p = year_in_bytes (be16 b p)

-- d is the year, month and day written at p
pub record IsWritten (b : List ℕ) (p : ℕ) (d : Date) : Type 0 where
  pub year : d.year ≡ written_year b p
  pub month : d.month ≡ get_or b (p + 2) 0
  pub day : d.day ≡ get_or b (p + 3) 0

-- the number of the day of the date written at p
unfoldable pub date_at : List ℕ → ℕ → Option ℤ
date_at b p = day_read (record { year = written_year b p; month = get_or b (p + 2) 0; day = get_or b (p + 3) 0 })

-- that day as the definitions count it, 0 where it is no date
unfoldable pub day_at : List ℕ → ℕ → ℕ
day_at b p =
    if is_date (written_year b p) (get_or b (p + 2) 0) (get_or b (p + 3) 0) then day_number (written_year b p) (get_or b (p + 2) 0) (get_or b (p + 3) 0) else 0

-- those of the n dates written from p on
unfoldable pub dates_at : List ℕ → ℕ → ℕ → List ℕ
dates_at b p zero = []
dates_at b p (suc n) = day_at b p ∷ dates_at b (p + 4) n

-- ---- that the crate `model` reads a date at p, and n dates from p on

unfoldable pub is_day : List ℕ → ℕ → Bool
is_day l p = is_some (date_in (take 4 (drop p l)))

-- n dates
unfoldable pub are_days : List ℕ → ℕ → ℕ → Bool
are_days l p n = is_some (each date_in (pieces 4 n (drop p l)))

-- there are n dates from p on
abbrev pub HasDates : List ℕ → ℕ → ℕ → Type 0
HasDates b p n = (p + 4 * n ≤ length b) × (are_days b p n ≡ true)
