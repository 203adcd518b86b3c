-- Each answer of the functions on dates, times of day and weekday sets, from what the code has tested.
use Rattle.std.specs.Prelude.{◌≡◌, Bool, true, false, not, ℕ, zero, suc, ◌+◌, ◌*◌, ◌/◌, ◌%◌, ◌^◌, ◌≤◌, ◌<◌, T, leb, eqb, ℤ, Some, None}
use Rattle.std.proofs.Common.{sym, ap, ◌∙◌, arith, zero-mul, one-mul, pow_pos, pow_mono, leb-true, leb-false, lt-ltb, le-ltb, eq-eqb, ne_eqb}
use Rattle.std.proofs.Math.Nat.{div-eq_of_lt}
use Rattle.std.specs.Int.Bits.{bit_and}
use Rattle.model.specs.Calendar.{is_leap, days_in_month, is_date, day_number, first_day, last_day, contains}
use Rattle.model.specs.DayNumber.{signed_day, day_of}
use Rattle.model.specs.Instant.{second, day_seconds}
use Rattle.laws_base.specs.Test.{by-test, never}
use Rattle.laws_base.specs.Claim.{Claim, le, eq, if, all_below, at_each, all₂, at-each₂}
use Rattle.laws_calendar.specs.Dates.{Has, is-had, date-facts, date-test, no-date, day-from, day-to}
use Rattle.laws_calendar.specs.Numbers.{IsDayNumber, number-within, day-given}
use Rattle.civil.specs.Dates.{calendar_years, day_read, time_read}
use Rattle.civil.specs.declared.Date.{Date}

-- ---- dates

-- every month has 28 days
month-has : Bool → ℕ → Claim
month-has l m = (if) (le 1 m) (le 28 (days_in_month l m))

months-have : (l : Bool) → T (all_below (month-has l) 13)
unfolding all_below month-has days_in_month
months-have true = tt
months-have false = tt

at-least-28 : (l : Bool) (m : ℕ) → 1 ≤ m → m < 13 → 28 ≤ days_in_month l m
unfolding month-has
at-least-28 l m h k = at_each (month-has l) 13 (months-have l) m k h

-- so its first 28 days are dates
pub in-28 : (y m d : ℕ) → 401 ≤ y → y ≤ 20399 → 1 ≤ m → m ≤ 12 → 1 ≤ d → d < 29 → true ≡ is_date y m d
in-28 y m d a b c e f g =
    let h : 28 ≤ days_in_month (is_leap y) m = at-least-28 (is_leap y) m c (omega arith) in
    sym (date-test (record { year-low = a; year-high = b; month-low = c; month-high = e; day-low = f; day-high = omega arith }))

-- behind them the month's days are asked for
pub in-month : (y m d k : ℕ) → 401 ≤ y → y ≤ 20399 → 1 ≤ m → m ≤ 12 → 1 ≤ d → k ≡ days_in_month (is_leap y) m → leb d k ≡ is_date y m d
in-month y m d k a b c e f g =
    by-test (leb d k)
    (λ t. let h : d ≤ k = leb-true _ _ t in t ∙ sym (date-test (record { year-low = a; year-high = b; month-low = c; month-high = e; day-low = f; day-high = omega arith })))
    (λ t. let h : k < d = leb-false _ _ t in t ∙ sym (no-date (λ v. omega arith)))

pub has-date : (y m d : ℕ) → is_date y m d ≡ true → (y < calendar_years) × Has y m d
has-date y m d e = let v = date-facts {y = y} {m = m} {d = d} e in (omega arith, is-had v)

pub day-yes : (d : Date) (z : ℤ) → is_date d.year d.month d.day ≡ true → z ≡ signed_day (day_number d.year d.month d.day) → Some z ≡ day_read d
unfolding day_read
day-yes d z e h = rw e (ap Some h)

pub day-no : (d : Date) → is_date d.year d.month d.day ≡ false → None ≡ day_read d
unfolding day_read
day-no d e = rw e

-- what a date's day tells: it is a date, and the number is its day's
pub read-day : (d : Date) (z : ℤ) → day_read d ≡ Some z → (is_date d.year d.month d.day ≡ true) × (z ≡ signed_day (day_number d.year d.month d.day))
unfolding day_read
read-day d z e =
    by-test (is_date d.year d.month d.day)
    (λ t. let q : Some (signed_day (day_number d.year d.month d.day)) ≡ Some z = rw t at e in (t, cc))
    (λ t. let q : None ≡ Some z = rw t at e in never (cc))

pub read_none : (d : Date) → day_read d ≡ None → is_date d.year d.month d.day ≡ false
unfolding day_read
read_none d e =
    by-test (is_date d.year d.month d.day)
    (λ t. let q : Some (signed_day (day_number d.year d.month d.day)) ≡ None = rw t at e in never (cc))
    (λ t. t)

-- so the day is in the range, and the number that of a day
pub read-day-in : (d : Date) (z : ℤ) → day_read d ≡ Some z → (first_day ≤ day_of z) × (day_of z ≤ last_day)
read-day-in d z e =
    let q = read-day d z e in
    let v = date-facts {y = d.year} {m = d.month} {d = d.day} q.0 in
    let i = day-given q.1 in
    (omega (arith, day-from v), omega (arith, day-to v))

pub read_number : (d : Date) (z : ℤ) → day_read d ≡ Some z → IsDayNumber z
read_number d z e = let b = read-day-in d z e in number-within z (omega (arith, b.0)) (omega (arith, b.1))

-- ---- times of day

pub no_second : (s n : ℕ) → day_seconds ≤ s → None ≡ time_read s n
unfolding time_read
no_second s n h = simp (le-ltb s day_seconds h)

pub no-nanosecond : (s n : ℕ) → s < day_seconds → second ≤ n → None ≡ time_read s n
unfolding time_read
no-nanosecond s n h k = simp (lt-ltb s day_seconds h, le-ltb n second k)

pub time-is : (s n : ℕ) → s < day_seconds → n < second → Some (s * second + n) ≡ time_read s n
unfolding time_read
time-is s n h k = simp (lt-ltb s day_seconds h, lt-ltb n second k)

-- ---- weekday sets

shift : ℕ → Claim
shift d = eq (1 * 2 ^ d % 256) (2 ^ d)

shifts : T (all_below shift 8)
unfolding all_below shift
shifts = tt

-- one, shifted by d
pub shift_one : (x d : ℕ) → d < 8 → x ≡ d → 1 * 2 ^ x % 256 ≡ 2 ^ d
unfolding shift
shift_one x d h e = rw e (at_each shift 8 shifts d h)

mask : ℕ → ℕ → Claim
mask s d = eq (bit_and s (2 ^ d)) (s / 2 ^ d % 2 * 2 ^ d)

masks : T (all₂ mask 256 8)
unfolding all_below all₂ mask
masks = tt

pub masked : (s d : ℕ) → s < 256 → d < 8 → not (eqb (bit_and s (2 ^ d)) 0) ≡ contains s d
unfolding contains mask
masked s d h k = go (s / 2 ^ d % 2) (omega arith) (at-each₂ mask 256 8 masks s h d k)
  where
    go : (b : ℕ) → b < 2 → bit_and s (2 ^ d) ≡ b * 2 ^ d → not (eqb (bit_and s (2 ^ d)) 0) ≡ eqb b 1
    go zero l e = simp (eq-eqb _ 0 (e ∙ zero-mul (2 ^ d)))
    go (suc zero) l e = simp (ne_eqb (bit_and s (2 ^ d)) 0 (λ z. omega (arith, one-mul (2 ^ d), pow_pos d)))
    go (suc (suc b)) l e = absurd (omega arith)

-- a byte has no bit past 7
pub past : (s d : ℕ) → s < 256 → 7 < d → false ≡ contains s d
unfolding contains
past s d h k =
    let low : 256 ≤ 2 ^ d = pow_mono k in
    let e : s / 2 ^ d ≡ 0 = div-eq_of_lt (omega arith) in
    simp e
