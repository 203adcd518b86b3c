-- The day and the second of a change: bounds of their parts, and one law for each answer of the code.
use mathlib.Core.Path.{◌≡◌, ◌∙◌}
use mathlib.Core.Bool.{Bool, true, false}
use Prim.Native.Nat.{ℕ, ◌+◌, ◌-◌, ◌*◌, ◌/◌, ◌%◌, ◌≤◌, ◌<◌}
use native.Mathlib.Omega.{arith}
use lib.IntN.{ℤ}
use borrow.Author.Tests.{lt-ltb, le-ltb, lt-leb, le-leb}
use Rattle.model.specs.Calendar.{is_leap, days_before_year, days_before_month, days_in_month, day_number, weekday}
use Rattle.model.specs.Footer as model
use Rattle.model.specs.Footer.{day_in, change_in, time_bias}
use Rattle.model.specs.Zone.{year_at}
use Rattle.laws_base.specs.Claim.{le, if, all_below, at_each}
use Rattle.laws_calendar.specs.Years.{dby-hi}
use Rattle.laws_calendar.specs.Dates.{year-within, year-below}
use Rattle.laws_zone.specs.FooterChanges.{DayFits, day-hi}
use Rattle.laws_calendar.specs.Numbers.{numbered}
use Rattle.model.specs.DayNumber.{signed_day}
use Rattle.zone_footer.specs.Parsed.{day_is}
use Rattle.zone_footer.specs.declared.Day.{Day}
use Rattle.zone_footer.specs.declared.Day.TheVariants.{Month, Julian, Plain}
use Rattle.model.specs.Offset.{offset_bias}
use Rattle.instant.specs.Instant.{years_end}
use Rattle.zone_changes.specs.Meaning.{last_year}
use Rattle.model.specs.Instant.{day_seconds}

pub year-small : (y : ℕ) → y ≤ last_year → days_before_year y ≤ 7597500
year-small y h = omega (arith, dby-hi y)

-- months by computing
starts : (l : Bool) (m : ℕ) → m < 13 → days_before_month l m ≤ 335
unfolding days_before_month days_in_month all_below
starts true = at_each (λ m. le (days_before_month true m) 335) 13 tt
starts false = at_each (λ m. le (days_before_month false m) 335) 13 tt

pub start_small : (l : Bool) (m : ℕ) → m ≤ 12 → days_before_month l m ≤ 335
start_small l m h = starts l m (omega arith)

lengths : (l : Bool) (m : ℕ) → m < 13 → days_in_month l m ≤ 31
unfolding days_in_month all_below
lengths true = at_each (λ m. le (days_in_month true m) 31) 13 tt
lengths false = at_each (λ m. le (days_in_month false m) 31) 13 tt

pub length-small : (l : Bool) (m : ℕ) → m ≤ 12 → days_in_month l m ≤ 31
length-small l m h = lengths l m (omega arith)

floors : (l : Bool) (m : ℕ) → m < 13 → 1 ≤ m → 28 ≤ days_in_month l m
unfolding days_in_month all_below
floors true = at_each (λ m. if (le 1 m) (le 28 (days_in_month true m))) 13 tt
floors false = at_each (λ m. if (le 1 m) (le 28 (days_in_month false m))) 13 tt

pub length-big : (l : Bool) (m : ℕ) → 1 ≤ m → m ≤ 12 → 28 ≤ days_in_month l m
length-big l m p h = floors l m (omega arith) p

pub years-in : (u : ℕ) {y : ℕ} → u < years_end → y ≡ year_at u → y ≤ 20799
years-in u h e = omega (arith, year-below {n = u / day_seconds} (omega arith) (year-within (u / day_seconds)))

-- ---- Mm.w.d

module _ (y m w d : ℕ) {l : Bool} {b k x n : ℕ} (el : l ≡ is_leap y) (ek : k ≡ days_before_month l m) (eb : b ≡ days_before_year y + k)
    (ex : x ≡ weekday b) (en : n ≡ days_in_month l m) where
  first-is : day_number y m 1 ≡ b
  unfolding day_number
  first-is = rw (eb, ek, el) (omega arith)

  pub month-on : (d + 13 - x) % 7 + 7 * (w - 1) < n → b + ((d + 13 - x) % 7 + 7 * (w - 1)) ≡ day_in y (model.month m w d)
  unfolding day_in
  month-on h = rw (first-is, ← el, ← en, ← ex, lt-ltb (b + (d + 13 - x) % 7 + 7 * (w - 1)) (b + n) (omega arith)) (omega arith)

  pub month-back : n ≤ (d + 13 - x) % 7 + 7 * (w - 1) → 7 ≤ n → b + ((d + 13 - x) % 7 + 7 * (w - 1) - 7) ≡ day_in y (model.month m w d)
  unfolding day_in
  month-back h k = rw (first-is, ← el, ← en, ← ex, le-ltb (b + (d + 13 - x) % 7 + 7 * (w - 1)) (b + n) (omega arith)) (omega arith)

-- ---- Jn

module _ (y n : ℕ) {l : Bool} (el : l ≡ is_leap y) where
  pub julian-common : l ≡ false → days_before_year y + (n - 1) ≡ day_in y (model.julian n)
  unfolding day_in
  julian-common f = rw (← el, f) (omega arith)

  pub julian-early : l ≡ true → n < 60 → days_before_year y + (n - 1) ≡ day_in y (model.julian n)
  unfolding day_in
  julian-early f h = rw (← el, f, lt-leb 60 n h) (omega arith)

  pub julian-late : l ≡ true → 60 ≤ n → days_before_year y + n ≡ day_in y (model.julian n)
  unfolding day_in
  julian-late f h = rw (← el, f, le-leb 60 n h) (omega arith)

-- ---- the three forms

pub month-fits : {d : Day} {m w k : ℕ} → d ≡ Month m w k → DayFits (day_is d) → (1 ≤ m) × (m ≤ 12) × (1 ≤ w) × (w ≤ 5) × (k ≤ 6)
month-fits e h = rw e at h

pub julian-fits : {d : Day} {n : ℕ} → d ≡ Julian n → DayFits (day_is d) → (1 ≤ n) × (n ≤ 365)
julian-fits e h = rw e at h

pub plain_fits : {d : Day} {n : ℕ} → d ≡ Plain n → DayFits (day_is d) → n ≤ 365
plain_fits e h = rw e at h

pub day-is : (y : ℕ) {r : ℤ} {d x : Day} → d ≡ x → r ≡ signed_day (day_in y (day_is x)) → r ≡ signed_day (day_in y (day_is d))
day-is y e h = rw e h

pub plain-is : (y n : ℕ) {b : ℕ} → b ≡ days_before_year y → b + n ≡ day_in y (model.plain n)
unfolding day_in
plain-is y n e = rw e

-- the day's number fits
pub day-small : (y : ℕ) (d : model.Day) → DayFits d → y ≤ last_year → day_in y d < numbered
day-small y d f h = omega (arith, day-hi y d f, year-small y h)

pub change-is : (o y : ℕ) (t : model.ChangeRule) {r k : ℕ} → k ≡ day_in y t.day → r ≡ k * day_seconds + t.time + offset_bias - (time_bias + o) → r ≡ change_in o t y
unfolding change_in
change-is o y t q p = p ∙ rw q
