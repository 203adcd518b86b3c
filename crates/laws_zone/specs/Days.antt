-- The days that a footer names. POSIX.1 section 8.3 (TZ): Mm.w.d is the w'th day d of month m, or the last one where w is 5, and day 0 is Sunday;
-- Jn is day n of 1 to 365, and leap days are not counted.
use Rattle.std.specs.Prelude.{◌≡◌, Bool, true, false, ◌&&◌, ℕ, ◌+◌, ◌*◌, ◌-◌, ◌%◌, ◌≤◌, ◌<◌, leb, ltb, if◌then◌else◌}
use Rattle.std.proofs.Common.{sym, arith, ltb-true, ltb-false}
use Rattle.model.specs.Calendar.{is_leap, days_before_month, days_in_month, day_number, weekday}
use Rattle.model.specs.Footer.{month, julian, day_in}
use Rattle.laws_base.specs.Test.{by-test}
use Rattle.laws_base.specs.Claim.{le, eq, both, if, all_below, at_each, all₂, at-each₂}

-- ---- Mm.w.d

-- n is the day d (Sunday is 0) of week w, in a month of k days that begins on the day f
pub record WeekdayOfMonth (f k w d n : ℕ) : Type 0 where
  pub from : f ≤ n
  pub to : n < f + k
  -- Monday is 0 in `weekday`
  pub on : weekday n ≡ (d + 6) % 7
  pub week : w ≤ 4 → (f + 7 * (w - 1) ≤ n) × (n < f + 7 * w)
  pub last : w ≡ 5 → f + k ≤ n + 7

lengths : (m : ℕ) → m < 13 → 1 ≤ m → ((28 ≤ days_in_month true m) × (days_in_month true m ≤ 31)) × ((28 ≤ days_in_month false m) × (days_in_month false m ≤ 31))
unfolding days_in_month all_below
lengths =
    at_each (λ m. (if) (le 1 m) (both (both (le 28 (days_in_month true m)) (le (days_in_month true m) 31)) (both (le 28 (days_in_month false m)) (le (days_in_month false m) 31)))) 13 tt

month-length : (b : Bool) (m : ℕ) → 1 ≤ m → m ≤ 12 → (28 ≤ days_in_month b m) × (days_in_month b m ≤ 31)
month-length true m h k = (lengths m (omega arith) h).0
month-length false m h k = (lengths m (omega arith) h).1

-- the first such weekday of a month
abbrev shift : ℕ → ℕ → ℕ
shift f d = (d + 13 - weekday f) % 7

shift-lt : (f d : ℕ) → shift f d < 7
shift-lt f d = omega arith

shift-on : (f d k : ℕ) → d ≤ 6 → weekday (f + shift f d + 7 * k) ≡ (d + 6) % 7
shift-on f d k h = omega arith

module _ (f k w d : ℕ) (a : 28 ≤ k) (b : k ≤ 31) (p : 1 ≤ w) (q : w ≤ 5) (h : d ≤ 6) where
  kept : f + shift f d + 7 * (w - 1) < f + k → WeekdayOfMonth f k w d (f + shift f d + 7 * (w - 1))
  kept l = record {
    from = omega arith;
    to = l;
    on = shift-on f d (w - 1) h;
    week = λ _. (omega arith, omega (arith, shift-lt f d));
    last = λ five. omega arith;
  }

  back : f + k ≤ f + shift f d + 7 * (w - 1) → WeekdayOfMonth f k w d (f + shift f d + 7 * (w - 1) - 7)
  back l =
      let five : w ≡ 5 = omega (arith, shift-lt f d) in
      let e : f + shift f d + 7 * (w - 1) - 7 ≡ f + shift f d + 7 * 3 = omega arith in
      rw e (record {
        from = omega arith;
        to = omega (arith, shift-lt f d);
        on = shift-on f d 3 h;
        week = λ four. absurd (omega arith);
        last = λ _. omega arith;
      })

pub month-named : (y m w d : ℕ) → 1 ≤ m → m ≤ 12 → 1 ≤ w → w ≤ 5 → d ≤ 6 → WeekdayOfMonth (day_number y m 1) (days_in_month (is_leap y) m) w d (day_in y (month m w d))
unfolding day_in
month-named y m w d a b p q h =
    let f = day_number y m 1 in
    let k = days_in_month (is_leap y) m in
    let l = month-length (is_leap y) m a b in
    by-test (ltb (f + shift f d + 7 * (w - 1)) (f + k))
    (λ e. rw e (kept f k w d l.0 l.1 p q h (ltb-true _ _ e)))
    (λ e. rw e (back f k w d l.0 l.1 p q h (ltb-false _ _ e)))

-- ---- Jn

-- the day number, from 1, of a date in a common year
abbrev pub ordinal : ℕ → ℕ → ℕ
ordinal m d = days_before_month false m + d

counted : (m : ℕ) → m < 13 → (d : ℕ) → d < 32 → 1 ≤ d → d ≤ days_in_month false m → days_before_month true m + (d - 1) ≡ ordinal m d - 1 + (if leb 60 (ordinal m d) then 1 else 0)
unfolding days_before_month days_in_month all_below all₂
counted =
    at-each₂ (λ m d. (if) (le 1 d) ((if) (le d (days_in_month false m)) (eq (days_before_month true m + (d - 1)) (ordinal m d - 1 + (if leb 60 (ordinal m d) then 1 else 0))))) 13 32 tt

counts : (leap : Bool) (m d : ℕ) → m ≤ 12 → 1 ≤ d → d ≤ 31 → d ≤ days_in_month false m
    → ordinal m d - 1 + (if leap && leb 60 (ordinal m d) then 1 else 0) ≡ days_before_month leap m + (d - 1)
counts true m d a b c e = sym (counted m (omega arith) d (omega arith) b e)
counts false m d a b c e = omega arith

-- Jn is the same date in every year, the one that has the number n in a common year
pub julian-date : (y m d : ℕ) → 1 ≤ m → m ≤ 12 → 1 ≤ d → d ≤ days_in_month false m → day_in y (julian (ordinal m d)) ≡ day_number y m d
unfolding day_in day_number
julian-date y m d a b c e = omega (arith, counts (is_leap y) m d b c (omega (arith, month-length false m a b)) e)
