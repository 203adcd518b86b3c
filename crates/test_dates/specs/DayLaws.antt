-- Each answer of the test of one day, from what the code has tested.
use Rattle.std.specs.Prelude.{◌≡◌, refl, true, false, ◌&&◌, ℕ, ◌≤◌, ◌<◌, eqb, ℤ, pos, negsuc}
use Rattle.std.proofs.Common.{sym, ap, ◌∙◌, arith}
use Rattle.std.specs.Int.Signed.{le_z, lt_z}
use borrow.Author.Tests.{lt-leb, le-leb, ltb-true, ltb-false, eq-eqb, ne_eqb}
use Rattle.model.specs.Calendar.{date_of, day_number, weekday}
use Rattle.model.specs.DayNumber.{signed_day, day_of}
use Rattle.laws_base.specs.Test.{clash}
use Rattle.laws_calendar.specs.Dates.{Has, date-has, number-of-date, year-below, has_within}
use Rattle.laws_calendar.specs.Numbers.{number-within}
use Rattle.civil.specs.Dates.{calendar_years, InCalendar, dated}
use Rattle.civil.specs.declared.Date.{Date as Dated}
use Rattle.test_dates.specs.Days.{is_date_of}

-- ---- the years

low-no : (z : ℤ) → lt_z z (negsuc 4372682) ≡ true → le_z (negsuc 4372682) z ≡ false
low-no (pos n) e = clash false e refl
low-no (negsuc n) e = lt-leb n 4372682 (ltb-true 4372682 n e)

low-yes : (z : ℤ) → lt_z z (negsuc 4372682) ≡ false → le_z (negsuc 4372682) z ≡ true
low-yes (pos n) e = refl
low-yes (negsuc n) e = le-leb n 4372682 (ltb-false 4372682 n e)

high-no : (z : ℤ) → lt_z (pos 2934357) z ≡ true → le_z z (pos 2934357) ≡ false
high-no (pos n) e = lt-leb n 2934357 (ltb-true 2934357 n e)
high-no (negsuc n) e = clash false e refl

high-yes : (z : ℤ) → lt_z (pos 2934357) z ≡ false → le_z z (pos 2934357) ≡ true
high-yes (pos n) e = le-leb n 2934357 (ltb-false 2934357 n e)
high-yes (negsuc n) e = refl

days-asked : (z : ℤ) → lt_z z (negsuc 4372682) ≡ false → lt_z (pos 2934357) z ≡ false → (145367 ≤ day_of z) × (day_of z ≤ 7452407)
unfolding day_of
days-asked (pos n) e h = let k = ltb-false 2934357 n h in (omega arith, omega arith)
days-asked (negsuc n) e h = let k = ltb-false 4372682 n e in (omega arith, omega arith)

module _ (z : ℤ) (w y m d : ℕ) where
  pub too-low : lt_z z (negsuc 4372682) ≡ true → false ≡ is_date_of z w y m d
  unfolding is_date_of
  too-low e = rw (low-no z e)

  pub too-high : lt_z z (negsuc 4372682) ≡ false → lt_z (pos 2934357) z ≡ true → false ≡ is_date_of z w y m d
  unfolding is_date_of
  too-high e h = rw (low-yes z e, high-no z h)

  -- ---- a day of these years

  module _ (e : lt_z z (negsuc 4372682) ≡ false) (h : lt_z (pos 2934357) z ≡ false) where
    pub in-calendar : InCalendar z
    in-calendar = let b = days-asked z e h in record { number = number-within z (omega (arith, b.0)) (omega (arith, b.1)); below = omega (arith, b.1) }

    pub other-weekday : {x : ℕ} → x ≡ weekday (day_of z) → (x ≡ w → ⊥) → false ≡ is_date_of z w y m d
    unfolding is_date_of
    other-weekday p f = rw (low-yes z e, high-yes z h, ne_eqb (weekday (day_of z)) w (λ q. f (p ∙ q)))

    module _ {x : ℕ} (p : x ≡ weekday (day_of z)) (k : x ≡ w) {r : Dated} (q : r ≡ dated (date_of (day_of z))) where
      same : is_date_of z w y m d ≡ (eqb (date_of (day_of z)).year y && (eqb (date_of (day_of z)).month m && eqb (date_of (day_of z)).day d))
      unfolding is_date_of
      same = rw (low-yes z e, high-yes z h, eq-eqb (weekday (day_of z)) w (sym p ∙ k))

      year-is : r.year ≡ (date_of (day_of z)).year
      year-is = ap (λ (x : Dated). x.year) q

      month-is : r.month ≡ (date_of (day_of z)).month
      month-is = ap (λ (x : Dated). x.month) q

      day-is : r.day ≡ (date_of (day_of z)).day
      day-is = ap (λ (x : Dated). x.day) q

      pub other-year : (r.year ≡ y → ⊥) → false ≡ is_date_of z w y m d
      other-year f = sym (same ∙ rw (ne_eqb (date_of (day_of z)).year y (λ g. f (year-is ∙ g))))

      pub other-month : r.year ≡ y → (r.month ≡ m → ⊥) → false ≡ is_date_of z w y m d
      other-month a f = sym (same ∙ rw (eq-eqb (date_of (day_of z)).year y (sym year-is ∙ a), ne_eqb (date_of (day_of z)).month m (λ g. f (month-is ∙ g))))

      pub other-day : r.year ≡ y → r.month ≡ m → (r.day ≡ d → ⊥) → false ≡ is_date_of z w y m d
      other-day a b f =
          sym (same ∙ rw (eq-eqb (date_of (day_of z)).year y (sym year-is ∙ a), eq-eqb (date_of (day_of z)).month m (sym month-is ∙ b), ne_eqb (date_of (day_of z)).day d (λ g. f (day-is ∙ g))))

      -- the date has a day, and its number is z
      module _ (a : r.year ≡ y) (b : r.month ≡ m) (c : r.day ≡ d) where
        pub has-day : (y < calendar_years) × Has y m d
        has-day =
            let n : ℕ = day_of z in let v = date-has n in let i = rw (number-of-date n) at (has_within v) in
            rw (sym a ∙ year-is, sym b ∙ month-is, sym c ∙ day-is) (year-below in-calendar.below i, v)

        pub number-back : signed_day (day_number y m d) ≡ z
        number-back = rw (sym a ∙ year-is, sym b ∙ month-is, sym c ∙ day-is) (ap signed_day (number-of-date (day_of z)) ∙ sym in-calendar.number.back)

        pub this-date : true ≡ is_date_of z w y m d
        this-date = sym (same ∙ rw (eq-eqb (date_of (day_of z)).year y (sym year-is ∙ a), eq-eqb (date_of (day_of z)).month m (sym month-is ∙ b), eq-eqb (date_of (day_of z)).day d (sym day-is ∙ c)))
