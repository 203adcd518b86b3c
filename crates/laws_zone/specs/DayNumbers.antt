-- The numbers of the days on which a footer's changes lie. Document 02, request 3: "those of footer changes in the years just outside, which still count,
-- fit 32 bits too".
use Rattle.std.specs.Prelude.{◌≡◌, refl, ◌&&◌, ℕ, ◌+◌, ◌*◌, ◌-◌, ◌/◌, ◌≤◌, ◌<◌, leb, pos, negsuc, ◌≤ℤ◌, if◌then◌else◌}
use Rattle.std.proofs.Common.{arith, SFits}
use Rattle.std.proofs.Math.Decide.{dec_le}
use Rattle.std.specs.Int.{w32}
use Rattle.model.specs.Calendar.{is_leap, days_before_year, day_number, first_day, last_day}
use Rattle.model.specs.DayNumber.{signed_day}
use Rattle.model.specs.Footer.{Day, month, julian, plain, day_in}
use Rattle.model.specs.Instant.{first_second, last_second, day_seconds}
use Rattle.model.specs.Offset.{offset_bias, greatest_offset}
use Rattle.model.specs.Zone.{year_at}
use Rattle.laws_base.specs.Test.{by-test}
use Rattle.laws_calendar.specs.Years.{dby-hi}
use Rattle.laws_calendar.specs.Dates.{has_within, year-mono, year-step, year-within}
use Rattle.laws_calendar.specs.Numbers.{number_fits, number-le}
use Rattle.laws_zone.specs.FooterChanges.{DayFits, day-hi}
use Rattle.laws_zone.specs.Days.{month-named}

-- ---- the day of a change lies in its year, or is the first of the next one: n may be 365 in a year of 365 days

next-first : (y m k : ℕ) → day_number y m (k + 1) ≡ day_number y m 1 + k
unfolding day_number
next-first y m k = omega arith

in-month : (y m w d : ℕ) → DayFits (month m w d) → (days_before_year y ≤ day_in y (month m w d)) × (day_in y (month m w d) ≤ days_before_year (y + 1))
in-month y m w d f =
    let n = month-named y m w d f.0 f.1 f.2 f.3 f.4 in
    let k : ℕ = day_in y (month m w d) - day_number y m 1 in
    let h = has_within {y = y} {m = m} {d = k + 1} (record { month-low = f.0; month-high = f.1; day-low = omega arith; day-high = omega (arith, n.from, n.to) }) in
    let e = next-first y m k in
    let i = has_within {y = y} {m = m} {d = 1} (record { month-low = f.0; month-high = f.1; day-low = omega arith; day-high = omega (arith, n.from, n.to) }) in
    (omega (arith, i.from, n.from), omega (arith, h.to, n.from))

bit-few : (y n : ℕ) → (if is_leap y && leb 60 n then 1 else 0) ≤ 1
bit-few y n = by-test (is_leap y && leb 60 n) (λ t. rw t (omega arith)) (λ t. rw t (omega arith))

pub in-its-year : (y : ℕ) (d : Day) → DayFits d → (days_before_year y ≤ day_in y d) × (day_in y d ≤ days_before_year (y + 1))
unfolding day_in
in-its-year y (month m w d) f = in-month y m w d f
in-its-year y (julian n) f = let e = year-step y in let b = bit-few y n in (omega arith, omega (arith, f.0, f.1))
in-its-year y (plain n) f = let e = year-step y in (omega arith, omega arith)

-- ---- the years that are looked at

first-is : signed_day (days_before_year 398) ≡ negsuc 4372682
unfolding days_before_year signed_day
first-is = refl

last-is : signed_day (days_before_year 20404) ≡ pos 2934358
unfolding days_before_year signed_day
last-is = refl

-- the days of the changes in the years -10002 to 10003
pub footer-day-bounds : (y : ℕ) (d : Day) → DayFits d → 398 ≤ y → y ≤ 20403 → (negsuc 4372682 ≤ℤ signed_day (day_in y d)) × (signed_day (day_in y d) ≤ℤ pos 2934358)
footer-day-bounds y d f h k =
    let b = in-its-year y d f in
    let l = year-mono {a = 398} {b = y} h in
    let u = year-mono {a = y + 1} {b = 20404} (omega arith) in
    (rw (← first-is) (number-le (days_before_year 398) (day_in y d) (omega arith)), rw (← last-is) (number-le (day_in y d) (days_before_year 20404) (omega arith)))

start-400 : days_before_year 400 ≡ 146097
unfolding days_before_year
start-400 = refl

start-20402 : days_before_year 20402 ≡ 7451678
unfolding days_before_year
start-20402 = refl

-- a local time of a date, less an offset, lies at most 51 h 59 min 59 s outside the range of instants
pub local-near : (d s o u : ℕ) → first_day ≤ d → d ≤ last_day → s < day_seconds → o ≤ greatest_offset → u + o ≡ d * day_seconds + s + offset_bias
    → (first_second ≤ u + greatest_offset) × (u ≤ last_second + greatest_offset)
local-near d s o u h k i j e = (omega arith, omega arith)

-- at such a second the changes of two years before to two years after are looked at, and those of the year by mean years of 31,556,952 s
pub years-asked : (u : ℕ) → first_second ≤ u + greatest_offset → u ≤ last_second + greatest_offset
    → (398 ≤ year_at u - 2) × (year_at u + 2 ≤ 20403) × (398 ≤ u / 31556952) × (u / 31556952 ≤ 20403)
years-asked u h k =
    let w = year-within (u / day_seconds) in
    (omega (arith, low (dec_le 400 (year_at u))), omega (arith, high (dec_le (year_at u) 20401)), omega arith, omega arith)
  where
    low : Dec (400 ≤ year_at u) → 400 ≤ year_at u
    low (yes p) = p
    low (no p) = absurd (omega (arith, (year-within (u / day_seconds)).to, year-mono {a = year_at u + 1} {b = 400} (omega arith), start-400))

    high : Dec (year_at u ≤ 20401) → year_at u ≤ 20401
    high (yes p) = p
    high (no p) = absurd (omega (arith, (year-within (u / day_seconds)).from, year-mono {a = 20402} {b = year_at u} (omega arith), start-20402))

-- the numbers of all that the code can look at fit 32 bits
pub footer-day-fits : (y : ℕ) (d : Day) → DayFits d → y ≤ 20801 → SFits w32 (signed_day (day_in y d))
footer-day-fits y d f h = number_fits (day_in y d) (omega (arith, day-hi y d f, dby-hi y))
