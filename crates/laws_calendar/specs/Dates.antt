-- Dates and days: each day lies in one year and one month, each date's number gives the date back, and each day's date its number.
-- What holds of the months alone is computed, for the 365 or 366 days of a year. Document 01: "Date: proleptic Gregorian".
use Rattle.std.specs.Prelude.{◌≡◌, refl, Bool, true, false, not, ◌&&◌, ◌||◌, ℕ, zero, suc, ◌+◌, ◌-◌, ◌*◌, ◌/◌, ◌%◌, ◌≤◌, ◌<◌, T, eqb, ltb, if◌then◌else◌}
use Rattle.std.proofs.Common.{ap, ⊎_elim, suc-le-suc, arith, sub-add_cancel, le_antisymm, le_of_lt, eq-or-lt_of_le, eqb-true, ltb-true, ltb-false}
use Rattle.std.proofs.Math.Decide.{dec_le}
use Rattle.std.proofs.lemmas.Bool.{eqb-false}
use Rattle.model.specs.Calendar.{is_leap, days_before_year, days_in_month, days_before_month, date, is_date, day_number, year_of, months_begun, month_of, date_in, date_of, first_day, last_day}
use Rattle.laws_base.specs.Claim.{Claim, le, lt, eq, both, if, Says, all_below, at_each, all₂, at-each₂, says, passes, fails}
use Rattle.laws_calendar.specs.Years.{dby-hi, dby-lo, year_estimate}

-- ---- the length of a year

-- the days that a year has above 365
abbrev pub leap_day : Bool → ℕ
leap_day leap = if leap then 1 else 0

pub leap-few : (leap : Bool) → leap_day leap ≤ 1
leap-few true = omega arith
leap-few false = omega arith

-- what is_leap says, in numbers
data LeapCase (y : ℕ) : ℕ → Type 0 where
  c400 : y % 400 ≡ 0 → LeapCase y 1
  c100 : y % 100 ≡ 0 → (y % 400 ≡ 0 → ⊥) → LeapCase y 0
  c4 : y % 4 ≡ 0 → (y % 100 ≡ 0 → ⊥) → LeapCase y 1
  c1 : (y % 4 ≡ 0 → ⊥) → LeapCase y 0

leap-case : (y : ℕ) → LeapCase y (leap_day (is_leap y))
unfolding is_leap
leap-case y = go (eqb (y % 4) 0) (eqb (y % 100) 0) (eqb (y % 400) 0) refl refl refl
  where
    go : (a b c : Bool) → eqb (y % 4) 0 ≡ a → eqb (y % 100) 0 ≡ b → eqb (y % 400) 0 ≡ c → LeapCase y (leap_day (a && (not b || c)))
    go false b c p q r = c1 (eqb-false _ _ p)
    go true false c p q r = c4 (eqb-true _ _ p) (eqb-false _ _ q)
    go true true true p q r = c400 (eqb-true _ _ r)
    go true true false p q r = c100 (eqb-true _ _ q) (eqb-false _ _ r)

up4 : (y : ℕ) → y % 4 ≡ 0 → (y + 1 + 3) / 4 ≡ (y + 3) / 4 + 1
up4 y h = omega arith

up100 : (y : ℕ) → y % 100 ≡ 0 → (y + 1 + 99) / 100 ≡ (y + 99) / 100 + 1
up100 y h = omega arith

up400 : (y : ℕ) → y % 400 ≡ 0 → (y + 1 + 399) / 400 ≡ (y + 399) / 400 + 1
up400 y h = omega arith

st4 : (y : ℕ) → (y % 4 ≡ 0 → ⊥) → (y + 1 + 3) / 4 ≡ (y + 3) / 4
st4 y h = omega arith

st100 : (y : ℕ) → (y % 100 ≡ 0 → ⊥) → (y + 1 + 99) / 100 ≡ (y + 99) / 100
st100 y h = omega arith

st400 : (y : ℕ) → (y % 400 ≡ 0 → ⊥) → (y + 1 + 399) / 400 ≡ (y + 399) / 400
st400 y h = omega arith

m400-100 : (y : ℕ) → y % 400 ≡ 0 → y % 100 ≡ 0
m400-100 y h = omega arith

m100-4 : (y : ℕ) → y % 100 ≡ 0 → y % 4 ≡ 0
m100-4 y h = omega arith

few : (y : ℕ) → (y + 99) / 100 ≤ (y + 3) / 4
few y = omega arith

sums : (y i j l k a b c d e f : ℕ) → d ≡ a + i → f ≡ b + j → e ≡ c + l → k + l ≡ i + j → c ≤ a → e ≤ d → 365 * (y + 1) + (d + f - e) ≡ 365 * y + (a + b - c) + 365 + k
sums y i j l k a b c d e f p q r s h g = omega arith

nil : {a b : ℕ} → a ≡ b → a ≡ b + 0
nil h = omega arith

-- a year has 365 days, a leap year one more
pub year-step : (y : ℕ) → days_before_year (y + 1) ≡ days_before_year y + 365 + leap_day (is_leap y)
unfolding days_before_year
year-step y = go (leap_day (is_leap y)) (leap-case y)
  where
    go : (k : ℕ) → LeapCase y k → days_before_year (y + 1) ≡ days_before_year y + 365 + k
    go k (c400 h) = sums y 1 1 1 1 _ _ _ _ _ _ (up4 y (m100-4 y (m400-100 y h))) (up400 y h) (up100 y (m400-100 y h)) refl (few y) (few (y + 1))
    go k (c100 h g) = sums y 1 0 1 0 _ _ _ _ _ _ (up4 y (m100-4 y h)) (nil (st400 y g)) (up100 y h) refl (few y) (few (y + 1))
    go k (c4 h g) = sums y 1 0 0 1 _ _ _ _ _ _ (up4 y h) (nil (st400 y (λ e. g (m400-100 y e)))) (nil (st100 y g)) refl (few y) (few (y + 1))
    go k (c1 g) = sums y 0 0 0 0 _ _ _ _ _ _ (nil (st4 y g)) (nil (st400 y (λ e. g (m100-4 y (m400-100 y e))))) (nil (st100 y (λ e. g (m100-4 y e)))) refl (few y) (few (y + 1))

-- ---- the year of a day

pub below-year : {a b : ℕ} → a < b → days_before_year a < days_before_year b
below-year {a} {b} h = omega (arith, dby-hi a, dby-lo b)

pub year-mono : {a b : ℕ} → a ≤ b → days_before_year a ≤ days_before_year b
year-mono {a} {b} h = ⊎_elim (λ e. omega (arith, ap days_before_year e)) (λ l. le_of_lt (below-year l)) (eq-or-lt_of_le h)

-- the year begins on day n or before, and the next after it
pub record InYear (n y : ℕ) : Type 0 where
  pub from : days_before_year y ≤ n
  pub to : n < days_before_year (y + 1)

first-year : days_before_year 0 ≡ 0
unfolding days_before_year
first-year = refl

pub after_first : (n e : ℕ) → n < days_before_year e → 0 < e
after_first n zero h = absurd (omega (arith, first-year))
after_first n (suc e) h = omega arith

estimate-hi : (n : ℕ) → n < days_before_year (year_estimate n + 1)
estimate-hi n = omega (arith, dby-lo (year_estimate n + 1))

estimate-lo : (n : ℕ) → days_before_year (year_estimate n) ≤ n + 3
estimate-lo n = omega (arith, dby-hi (year_estimate n))

one_less : (n e : ℕ) → days_before_year e ≤ n + 3 → n < days_before_year e → InYear n (e - 1)
one_less n e lo t =
    let q : days_before_year (e - 1 + 1) ≡ days_before_year e = ap days_before_year (sub-add_cancel (after_first n e t)) in
    record { from = omega (arith, year-step (e - 1), leap-few (is_leap (e - 1))); to = omega arith }

pick-year : (n e : ℕ) → days_before_year e ≤ n + 3 → n < days_before_year (e + 1) → (b : Bool) → ltb n (days_before_year e) ≡ b → InYear n (if b then e - 1 else e)
pick-year n e lo hi false t = record { from = ltb-false _ _ t; to = hi }
pick-year n e lo hi true t = one_less n e lo (ltb-true _ _ t)

-- a day lies in the year that year_of says
pub year-within : (n : ℕ) → InYear n (year_of n)
unfolding year_of
year-within n = pick-year n (year_estimate n) (estimate-lo n) (estimate-hi n) _ refl

no-later : {n a b : ℕ} → InYear n a → InYear n b → Dec (a ≤ b) → a ≤ b
no-later p q (yes h) = h
no-later {n} {a} {b} p q (no f) = absurd (le-lt (year-mono (omega arith)))
  where
    le-lt : days_before_year (b + 1) ≤ days_before_year a → ⊥
    le-lt h = omega arith

-- and in no other
pub same-year : {n y z : ℕ} → InYear n y → InYear n z → y ≡ z
same-year {n} {y} {z} p q = le_antisymm (no-later p q (dec_le y z)) (no-later q p (dec_le z y))

-- ---- the months, by computing: 366 days of each kind of year, and 13 * 31 pairs of a month and a day

in-month : Bool → ℕ → Claim
in-month l r =
    let m = month_of l r in
    both (le 1 m) (both (le m 12) (both (le (days_before_month l m) r) (lt r (days_before_month l m + days_in_month l m))))

in-common : T (all_below (in-month false) 365)
unfolding all_below in-month months_begun days_before_month days_in_month
in-common = tt

in-leap : T (all_below (in-month true) 366)
unfolding all_below in-month months_begun days_before_month days_in_month
in-leap = tt

-- day r of a year, from 0, is a day of month m
pub record InMonth (leap : Bool) (r m : ℕ) : Type 0 where
  pub low : 1 ≤ m
  pub high : m ≤ 12
  pub from : days_before_month leap m ≤ r
  pub to : r < days_before_month leap m + days_in_month leap m

read-in : (l : Bool) (r : ℕ) → Says (in-month l r) → InMonth l r (month_of l r)
unfolding in-month
read-in l r h = record { low = h.0; high = h.1.0; from = h.1.1.0; to = h.1.1.1 }

-- it lies in the month that month_of says
pub month-in : (leap : Bool) (r : ℕ) → r < 365 + leap_day leap → InMonth leap r (month_of leap r)
month-in true r h = read-in true r (at_each (in-month true) 366 in-leap r h)
month-in false r h = read-in false r (at_each (in-month false) 365 in-common r h)

month-back : Bool → ℕ → ℕ → Claim
month-back l m d =
    let r = days_before_month l m + d in
    (if) (both (le 1 m) (lt d (days_in_month l m))) (both (lt r (365 + leap_day l)) (eq (month_of l r) m))

backs : (l : Bool) → T (all₂ (month-back l) 13 31)
unfolding all_below all₂ month-back months_begun days_before_month days_in_month
backs true = tt
backs false = tt

-- day d, from 0, of a month is a day of the year, and its month is that month
pub month-of : (l : Bool) (m d : ℕ) → 1 ≤ m → m < 13 → d < 31 → d < days_in_month l m → (days_before_month l m + d < 365 + leap_day l) × (month_of l (days_before_month l m + d) ≡ m)
unfolding month-back
month-of l m d h k i j = at-each₂ (month-back l) 13 31 (backs l) m k d i (h, j)

long : (l : Bool) → T (all_below (λ (m : ℕ). le (days_in_month l m) 31) 13)
unfolding all_below days_in_month
long true = tt
long false = tt

pub at-most-31 : (leap : Bool) (m : ℕ) → m ≤ 12 → days_in_month leap m ≤ 31
at-most-31 l m h = at_each (λ (m : ℕ). le (days_in_month l m) 31) 13 (long l) m (suc-le-suc h)

-- ---- there and back, in any year

-- the year y has a day d of month m
pub record Has (y m d : ℕ) : Type 0 where
  pub month-low : 1 ≤ m
  pub month-high : m ≤ 12
  pub day-low : 1 ≤ d
  pub day-high : d ≤ days_in_month (is_leap y) m

pub date-has : (n : ℕ) → Has (date_of n).year (date_of n).month (date_of n).day
unfolding date_of date_in
date-has n =
    let w = year-within n in
    let i = month-in (is_leap (year_of n)) (n - days_before_year (year_of n)) (omega (arith, year-step (year_of n))) in
    record { month-low = i.low; month-high = i.high; day-low = omega arith; day-high = omega arith }

-- the number of a day's date is that day
pub day-of-date : (n : ℕ) → day_number (date_of n).year (date_of n).month (date_of n).day ≡ n
unfolding day_number date_of date_in
day-of-date n =
    let w = year-within n in
    let i = month-in (is_leap (year_of n)) (n - days_before_year (year_of n)) (omega (arith, year-step (year_of n))) in
    omega arith

pub has_within : {y m d : ℕ} → Has y m d → InYear (day_number y m d) y
unfolding day_number
has_within {y} {m} {d} v =
    let b = month-of (is_leap y) m (d - 1) v.month-low (suc-le-suc v.month-high) (omega (arith, at-most-31 (is_leap y) m v.month-high)) (omega arith) in
    record { from = omega arith; to = omega (arith, year-step y) }

in-year : (y m d : ℕ) → day_number y m d - days_before_year y ≡ days_before_month (is_leap y) m + (d - 1)
unfolding day_number
in-year y m d = omega arith

date-in : {y m d : ℕ} → Has y m d → date_in y (days_before_month (is_leap y) m + (d - 1)) ≡ date y m d
unfolding date_in
date-in {y} {m} {d} v =
    let b = month-of (is_leap y) m (d - 1) v.month-low (suc-le-suc v.month-high) (omega (arith, at-most-31 (is_leap y) m v.month-high)) (omega arith) in
    rw b.1 (same-day (omega arith))
  where
    same-day : {x : ℕ} → x ≡ d → date y m x ≡ date y m d
    same-day e = λ i. date y m (e i)

-- the date of a date's number is that date
pub date-of-day : {y m d : ℕ} → Has y m d → date_of (day_number y m d) ≡ date y m d
unfolding date_of
date-of-day {y} {m} {d} v = rw (same-year (year-within (day_number y m d)) (has_within v), in-year y m d) (date-in v)

-- ---- the dates of -9999-01-01 to 9999-12-31

-- what is_date says
pub record IsDate (y m d : ℕ) : Type 0 where
  pub year-low : 401 ≤ y
  pub year-high : y ≤ 20399
  pub month-low : 1 ≤ m
  pub month-high : m ≤ 12
  pub day-low : 1 ≤ d
  pub day-high : d ≤ days_in_month (is_leap y) m

pub is-had : {y m d : ℕ} → IsDate y m d → Has y m d
is-had v = record { month-low = v.month-low; month-high = v.month-high; day-low = v.day-low; day-high = v.day-high }

-- is_date as a claim
claim : ℕ → ℕ → ℕ → Claim
claim y m d = both (both (le 401 y) (le y 20399)) (both (both (le 1 m) (le m 12)) (both (le 1 d) (le d (days_in_month (is_leap y) m))))

claimed-date : {y m d : ℕ} → Says (claim y m d) → IsDate y m d
unfolding claim
claimed-date h = record { year-low = h.0.0; year-high = h.0.1; month-low = h.1.0.0; month-high = h.1.0.1; day-low = h.1.1.0; day-high = h.1.1.1 }

pub date-facts : {y m d : ℕ} → is_date y m d ≡ true → IsDate y m d
unfolding is_date claim
date-facts {y} {m} {d} e = claimed-date (says (claim y m d) e)

pub date-test : {y m d : ℕ} → IsDate y m d → is_date y m d ≡ true
unfolding is_date claim
date-test {y} {m} {d} v = passes (claim y m d) ((v.year-low, v.year-high), ((v.month-low, v.month-high), (v.day-low, v.day-high)))

pub no-date : {y m d : ℕ} → (IsDate y m d → ⊥) → is_date y m d ≡ false
unfolding is_date claim
no-date {y} {m} {d} f = fails (claim y m d) (λ h. f (claimed-date h))

first-is : days_before_year 401 ≡ first_day
unfolding days_before_year
first-is = refl

last-is : days_before_year 20400 ≡ last_day + 1
unfolding days_before_year
last-is = refl

pub end_is : days_before_year 20800 ≡ 7597044
unfolding days_before_year
end_is = refl

pub day-from : {y m d : ℕ} → IsDate y m d → first_day ≤ day_number y m d
day-from {y} {m} {d} v = omega (arith, has_within (is-had v), year-mono {a = 401} {b = y} v.year-low, first-is)

pub day-to : {y m d : ℕ} → IsDate y m d → day_number y m d ≤ last_day
day-to {y} {m} {d} v = omega (arith, has_within (is-had v), year-mono {a = y + 1} {b = 20400} (omega arith), last-is)

year-at-least : {n y : ℕ} → first_day ≤ n → InYear n y → Dec (401 ≤ y) → 401 ≤ y
year-at-least h w (yes g) = g
year-at-least {n} {y} h w (no g) = absurd (omega (arith, year-mono {a = y + 1} {b = 401} (omega arith), first-is))

year-at-most : {n y : ℕ} → n ≤ last_day → InYear n y → Dec (y ≤ 20399) → y ≤ 20399
year-at-most h w (yes g) = g
year-at-most {n} {y} h w (no g) = absurd (omega (arith, year-mono {a = 20400} {b = y} (omega arith), last-is))

-- the year of a day of the years 0 to 20799
pub year-below : {n y : ℕ} → n < 7597044 → InYear n y → y < 20800
year-below {n} {y} h w = omega (arith, dby-lo y, dby-hi 20800, end_is)

year-is : (n : ℕ) → (date_of n).year ≡ year_of n
unfolding date_of date_in
year-is n = refl

-- each day's date is a date
pub number-is-date : (n : ℕ) → first_day ≤ n → n ≤ last_day → is_date (date_of n).year (date_of n).month (date_of n).day ≡ true
number-is-date n h k =
    let a : 401 ≤ year_of n = year-at-least h (year-within n) (dec_le 401 (year_of n)) in
    let b : year_of n ≤ 20399 = year-at-most k (year-within n) (dec_le (year_of n) 20399) in
    let v = date-has n in
    date-test
    (record {
      year-low = omega (arith, year-is n);
      year-high = omega (arith, year-is n);
      month-low = v.month-low;
      month-high = v.month-high;
      day-low = v.day-low;
      day-high = v.day-high;
    })

-- each day's date has that day's number
pub number-of-date : (n : ℕ) → day_number (date_of n).year (date_of n).month (date_of n).day ≡ n
number-of-date n = day-of-date n

-- each date's number gives that date back
pub date-of-number : (y m d : ℕ) → is_date y m d ≡ true → date_of (day_number y m d) ≡ date y m d
date-of-number y m d e = date-of-day (is-had (date-facts e))
