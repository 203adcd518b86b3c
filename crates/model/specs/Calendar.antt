-- The proleptic Gregorian calendar. Document 01, "Instant, duration, date, time of day": "Date: proleptic Gregorian, -9999-01-01 to 9999-12-31."
-- Years are counted from -10400 and days from -10400-01-01, so that all are natural numbers. 10,400 is a multiple of 400: leap years and
-- weekdays are those of the calendar. 1970-01-01 is day 4,518,050.
use Rattle.std.specs.Prelude.{Bool, not, ◌&&◌, ◌||◌, [], ◌∷◌, ℕ, zero, suc, ◌+◌, ◌*◌, ◌-◌, ◌/◌, ◌%◌, ◌^◌, leb, ltb, eqb, get_or, if◌then◌else◌}
use Rattle.model.specs.Basic.{is_in}

-- every fourth year, but of the centuries every fourth
unfoldable pub is_leap : ℕ → Bool
is_leap y = eqb (y % 4) 0 && (not (eqb (y % 100) 0) || eqb (y % 400) 0)

-- the number of days of the years before y, which is that of y's first day
unfoldable pub days_before_year : ℕ → ℕ
days_before_year y = 365 * y + ((y + 3) / 4 + (y + 399) / 400 - (y + 99) / 100)

-- the days of the month m, 1 to 12, in a leap year or a common one
unfoldable pub days_in_month : Bool → ℕ → ℕ
days_in_month leap m = get_or (0 ∷ 31 ∷ 28 ∷ 31 ∷ 30 ∷ 31 ∷ 30 ∷ 31 ∷ 31 ∷ 30 ∷ 31 ∷ 30 ∷ 31 ∷ []) m 0 + (if leap && eqb m 2 then 1 else 0)

-- the days of the months before m
unfoldable pub days_before_month : Bool → ℕ → ℕ
days_before_month leap zero = 0
days_before_month leap (suc m) = days_before_month leap m + days_in_month leap m

pub record Date : Type 0 where
  pub year : ℕ
  pub month : ℕ
  pub day : ℕ

abbrev pub date : ℕ → ℕ → ℕ → Date
date y m d = record { year = y; month = m; day = d }

-- a date of the years -9999 to 9999
unfoldable pub is_date : ℕ → ℕ → ℕ → Bool
is_date y m d = is_in 401 20399 y && (is_in 1 12 m && is_in 1 (days_in_month (is_leap y) m) d)

unfoldable pub day_number : ℕ → ℕ → ℕ → ℕ
day_number y m d = days_before_year y + days_before_month (is_leap y) m + (d - 1)

-- the year of the day n, the last that begins on it or before: the years of mean length that have passed, or one less
unfoldable pub year_of : ℕ → ℕ
year_of n = let e = 400 * (n + 1) / 146097 in if ltb n (days_before_year e) then e - 1 else e

-- the month of day r, from 0, of a year: how many of the months 1 to k have begun by then
unfoldable pub months_begun : Bool → ℕ → ℕ → ℕ
months_begun leap r zero = 0
months_begun leap r (suc k) = months_begun leap r k + (if leb (days_before_month leap (suc k)) r then 1 else 0)

abbrev pub month_of : Bool → ℕ → ℕ
month_of leap r = months_begun leap r 12

-- the date of day r, from 0, of the year y
unfoldable pub date_in : ℕ → ℕ → Date
date_in y r = let m = month_of (is_leap y) r in date y m (r - days_before_month (is_leap y) m + 1)

unfoldable pub date_of : ℕ → Date
date_of n = let y = year_of n in date_in y (n - days_before_year y)

-- Monday is 0: day 0 is a Saturday, day 4,518,050 a Thursday
abbrev pub weekday : ℕ → ℕ
weekday n = (n + 5) % 7

-- -9999-01-01, 0000-01-01 and 9999-12-31
abbrev pub first_day : ℕ
first_day = 146463

abbrev pub day_of_year_zero : ℕ
day_of_year_zero = 3798522

abbrev pub last_day : ℕ
last_day = 7450946

-- Document 01, "Weekdays": "A set is one byte: bit 0 is Monday, bit 6 is Sunday, bit 7 is clear. The empty set is allowed."
-- weekdays.rs `contains`: the day's bit of the set is 1.
abbrev pub is_set : ℕ → Bool
is_set set = ltb set 128

unfoldable pub contains : ℕ → ℕ → Bool
contains set weekday = eqb (set / 2 ^ weekday % 2) 1

unfoldable pub calendar : Unit {0}
unfolding is_leap days_before_year days_in_month days_before_month is_date day_number year_of months_begun date_in date_of contains
calendar = tt
