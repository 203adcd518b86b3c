-- Known dates, computed: the ends of the range, the days that the definitions name by number, some weekdays, and day numbers.
-- A year is counted from -10400: 401 is -9999, 10400 is 0, 12370 is 1970, 20399 is 9999.
use Rattle.std.specs.Prelude.{◌≡◌, refl, true, false, ◌*◌, pos, negsuc}
use Rattle.model.specs.Calendar.{is_date, date, day_number, date_of, weekday, first_day, day_of_year_zero, last_day, calendar}
use Rattle.model.specs.DayNumber.{signed_day, day_of}
use Rattle.model.specs.Instant.{epoch, day_seconds}

first-day : day_number 401 1 1 ≡ first_day
unfolding calendar
first-day = refl

year-zero : day_number 10400 1 1 ≡ day_of_year_zero
unfolding calendar
year-zero = refl

last-day : day_number 20399 12 31 ≡ last_day
unfolding calendar
last-day = refl

epoch-second : day_number 12370 1 1 * day_seconds ≡ epoch
unfolding calendar
epoch-second = refl

-- 1970-01-01 is a Thursday
thursday : weekday (day_number 12370 1 1) ≡ 3
unfolding calendar
thursday = refl

-- 2000-02-29 is a Tuesday
tuesday : weekday (day_number 12400 2 29) ≡ 1
unfolding calendar
tuesday = refl

-- 2026-01-09 is a Friday
friday : weekday (day_number 12426 1 9) ≡ 4
unfolding calendar
friday = refl

back : date_of (day_number 12400 2 29) ≡ date 12400 2 29
unfolding calendar
back = refl

-- 1900 is no leap year, 2000 is one
century : is_date 12300 2 29 ≡ false
unfolding calendar
century = refl

fourth-century : is_date 12400 2 29 ≡ true
unfolding calendar
fourth-century = refl

-- the years -10000 and 10000 are outside
too-early : is_date 400 12 31 ≡ false
unfolding calendar
too-early = refl

too-late : is_date 20400 1 1 ≡ false
unfolding calendar
too-late = refl

-- day numbers count from 1970-01-01
first-number : signed_day (day_number 401 1 1) ≡ negsuc 4371586
unfolding calendar signed_day
first-number = refl

epoch-number : signed_day (day_number 12370 1 1) ≡ pos 0
unfolding calendar signed_day
epoch-number = refl

last-number : signed_day (day_number 20399 12 31) ≡ pos 2932896
unfolding calendar signed_day
last-number = refl

-- 1969-12-31, the day before
day-before : date_of (day_of (negsuc 0)) ≡ date 12369 12 31
unfolding calendar day_of
day-before = refl
