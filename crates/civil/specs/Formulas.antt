-- The tables and formulas of the code: what they give is what the model's definitions give, by computing.
use Rattle.std.specs.Prelude.{◌≡◌, Bool, true, false, List, [], ◌∷◌, ℕ, ◌+◌, ◌-◌, ◌*◌, ◌/◌, ◌%◌, ◌≤◌, ◌<◌, T, eqb, get_or}
use Rattle.std.proofs.Common.{suc-le-suc, arith, lt-ltb, le-ltb, eq-eqb, ne_eqb}
use Rattle.model.specs.Calendar.{is_leap, days_before_year, days_in_month, days_before_month, day_number, year_of, months_begun, month_of}
use Rattle.laws_base.specs.Claim.{Claim, le, lt, eq, both, if, all_below, at_each}
use Rattle.laws_calendar.specs.Dates.{Has, has_within, year-mono, end_is}
use Rattle.civil.specs.Dates.{calendar_years, calendar_days}

-- ---- leap years

pub no-fourth : (y : ℕ) → (y % 4 ≡ 0 → ⊥) → false ≡ is_leap y
unfolding is_leap
no-fourth y h = simp (ne_eqb _ _ h)

pub no-century : (y : ℕ) → y % 4 ≡ 0 → (y % 100 ≡ 0 → ⊥) → true ≡ is_leap y
unfolding is_leap
no-century y h k = simp (eq-eqb _ _ h, ne_eqb _ _ k)

pub century : (y : ℕ) → y % 100 ≡ 0 → eqb (y % 400) 0 ≡ is_leap y
unfolding is_leap
century y h = let k : y % 4 ≡ 0 = omega arith in simp (eq-eqb _ _ h, eq-eqb _ _ k)

-- ---- months and years

-- the days before each month of a common year
abbrev pub starts : List ℕ
starts = 0 ∷ 0 ∷ 31 ∷ 59 ∷ 90 ∷ 120 ∷ 151 ∷ 181 ∷ 212 ∷ 243 ∷ 273 ∷ 304 ∷ 334 ∷ []

start : ℕ → Claim
start m =
    if (le 1 m)
    (both (le (get_or starts m 0) 334)
    (both (eq (get_or starts m 0) (days_before_month false m))
    (both (if (lt 2 m) (eq (get_or starts m 0 + 1) (days_before_month true m))) (if (le m 2) (eq (get_or starts m 0) (days_before_month true m))))))

starts-right : T (all_below start 13)
unfolding all_below start days_before_month days_in_month
starts-right = tt

pub start_of :
    (m : ℕ) → (1 ≤ m) × (m ≤ 12) →
    (get_or starts m 0 ≤ 334)
    × ((get_or starts m 0 ≡ days_before_month false m)
    × ((2 < m → get_or starts m 0 + 1 ≡ days_before_month true m) × (m ≤ 2 → get_or starts m 0 ≡ days_before_month true m)))
unfolding start
start_of m h = at_each start 13 starts-right m (suc-le-suc h.1) h.0

-- the month of day r, where March begins on day q
month-by : Bool → ℕ → ℕ → Claim
month-by l q r =
    both (if (lt r q) (eq (r / 31 + 1) (month_of l r))) (if (le q r) (eq (((r - q) * 5 + 2) / 153 + 3) (month_of l r)))

by-common : T (all_below (month-by false 59) 365)
unfolding all_below month-by months_begun days_before_month days_in_month
by-common = tt

by-leap : T (all_below (month-by true 60) 366)
unfolding all_below month-by months_begun days_before_month days_in_month
by-leap = tt

pub month-common : (r : ℕ) → r < 365 → (r < 59 → r / 31 + 1 ≡ month_of false r) × (59 ≤ r → ((r - 59) * 5 + 2) / 153 + 3 ≡ month_of false r)
unfolding month-by
month-common r h = at_each (month-by false 59) 365 by-common r h

pub month-leap : (r : ℕ) → r < 366 → (r < 60 → r / 31 + 1 ≡ month_of true r) × (60 ≤ r → ((r - 60) * 5 + 2) / 153 + 3 ≡ month_of true r)
unfolding month-by
month-leap r h = at_each (month-by true 60) 366 by-leap r h

-- the year of day n, of which r days have passed before it
pub year-early : (n r : ℕ) → r ≡ n → n < days_before_year (400 * (r + 1) / 146097) → 400 * (r + 1) / 146097 - 1 ≡ year_of n
unfolding year_of
year-early n r e h = let k : n < days_before_year (400 * (n + 1) / 146097) = rw e at h in rw e (simp (lt-ltb _ _ k))

pub year-late : (n r : ℕ) → r ≡ n → days_before_year (400 * (r + 1) / 146097) ≤ n → 400 * (r + 1) / 146097 ≡ year_of n
unfolding year_of
year-late n r e h = let k : days_before_year (400 * (n + 1) / 146097) ≤ n = rw e at h in rw e (simp (le-ltb _ _ k))

pub day-below : {y m d : ℕ} → y < calendar_years → Has y m d → day_number y m d < calendar_days
day-below {y} {m} {d} h v = omega (arith, has_within v, year-mono {a = y + 1} {b = calendar_years} (omega arith), end_is)
