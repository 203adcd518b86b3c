-- Dates have the same four bytes where they are the same day.
use mathlib.Core.Path.{◌≡◌, refl, sym, ap, ◌∙◌}
use mathlib.Core.Bool.{true}
use mathlib.Core.List.{List}
use Prim.Native.Nat.{ℕ, zero, suc, ◌+◌, ◌*◌, ◌≤◌, ◌<◌}
use native.Mathlib.Omega.{arith}
use lib.Dec.{eqb}
use lib.ListN.{length, get_or}
use borrow.Author.Tests.{eq-eqb, ne_eqb, eqb-true, eqb-false}
use Rattle.big_endian.specs.Be.{two_bytes, be16, be32}
use Rattle.laws_base.specs.Test.{by-test, and_both}
use Rattle.laws_calendar.specs.Dates.{IsDate, date-facts, is-had, date-of-day}
use Rattle.model.specs.Basic.{any, among, distinct}
use Rattle.model.specs.Calendar.{Date, date, is_date, date_of}
use Rattle.book_dates.specs.Words.{words_at}
use Rattle.book_dates.specs.Days.{year_in_bytes, written_year, day_at, dates_at, is_day, HasDates}
use Rattle.book_dates.proofs.Reading.{date_test, day-says, dates_test, days-says}

-- four bytes make one number
one_number_lem : (a b c d x y z w : ℕ) → a < 256 → b < 256 → c < 256 → d < 256 → x < 256 → y < 256 → z < 256 → w < 256 →
    ((a * 256 + b) * 256 + c) * 256 + d ≡ ((x * 256 + y) * 256 + z) * 256 + w → (a ≡ x) × (b ≡ y) × (c ≡ z) × (d ≡ w)
one_number_lem a b c d x y z w ha hb hc hd hx hy hz hw e = (omega arith, omega arith, omega arith, omega arith)

-- a year that is counted is of one number
one-year : (x y : ℕ) → x < two_bytes → y < two_bytes → 401 ≤ year_in_bytes x → year_in_bytes x ≡ year_in_bytes y → x ≡ y
one-year x y hx hy h e = omega arith

module _ (b : List ℕ) (bytes : (k : ℕ) → get_or b k 0 < 256) where
  same-day : (p q : ℕ) → be32 b p ≡ be32 b q → day_at b p ≡ day_at b q
  unfolding be32 day_at written_year be16
  same-day p q e =
      let w = one_number_lem (get_or b p 0) (get_or b (p + 1) 0) (get_or b (p + 2) 0) (get_or b (p + 3) 0) (get_or b q 0) (get_or b (q + 1) 0) (get_or b (q + 2) 0) (get_or b (q + 3) 0)
      (bytes p) (bytes (p + 1)) (bytes (p + 2)) (bytes (p + 3)) (bytes q) (bytes (q + 1)) (bytes (q + 2)) (bytes (q + 3)) e in
      rw (w.0, w.1, w.2, w.3)

  -- the date written at p
  abbrev written : ℕ → Date
  written p = date (written_year b p) (get_or b (p + 2) 0) (get_or b (p + 3) 0)

  is-date : (p : ℕ) → p + 4 ≤ length b → is_day b p ≡ true → is_date (written_year b p) (get_or b (p + 2) 0) (get_or b (p + 3) 0) ≡ true
  unfolding date_test
  is-date p h t = day-says b p h refl ∙ t

  date-back : (p : ℕ) → p + 4 ≤ length b → is_day b p ≡ true → date_of (day_at b p) ≡ written p
  unfolding day_at
  date-back p h t = let e = is-date p h t in rw e (date-of-day (is-had (date-facts e)))

  same_word : (p q : ℕ) → p + 4 ≤ length b → q + 4 ≤ length b → is_day b p ≡ true → is_day b q ≡ true → day_at b p ≡ day_at b q → be32 b p ≡ be32 b q
  unfolding be32 written_year be16
  same_word p q h k t u e =
      let d : written p ≡ written q = sym (date-back p h t) ∙ ap date_of e ∙ date-back q k u in
      let v : IsDate (written_year b p) (get_or b (p + 2) 0) (get_or b (p + 3) 0) = date-facts (is-date p h t) in
      let x : ℕ = get_or b p 0 * 256 + get_or b (p + 1) 0 in
      let y : ℕ = get_or b q 0 * 256 + get_or b (q + 1) 0 in
      let n : x ≡ y = one-year x y (omega (arith, bytes p, bytes (p + 1))) (omega (arith, bytes q, bytes (q + 1))) v.year-low (ap (λ (z : Date). z.year) d) in
      omega (arith, n, ap (λ (z : Date). z.month) d, ap (λ (z : Date). z.day) d)

  same_test : (p q : ℕ) → p + 4 ≤ length b → q + 4 ≤ length b → is_day b p ≡ true → is_day b q ≡ true → eqb (day_at b p) (day_at b q) ≡ eqb (be32 b p) (be32 b q)
  same_test p q h k t u =
      by-test (eqb (be32 b p) (be32 b q))
      (λ e. rw e (eq-eqb (day_at b p) (day_at b q) (same-day p q (eqb-true (be32 b p) (be32 b q) e))))
      (λ e. rw e (ne_eqb (day_at b p) (day_at b q) (λ z. eqb-false (be32 b p) (be32 b q) e (same_word p q h k t u z))))

  -- so a day is among the days as its bytes are among the bytes
  same-among : (p : ℕ) → p + 4 ≤ length b → is_day b p ≡ true → (n q : ℕ) → q + 4 * n ≤ length b → dates_test b q n ≡ true →
      among (dates_at b q n) (day_at b p) ≡ among (words_at b q n) (be32 b p)
  unfolding dates_test dates_at words_at any
  same-among p h t zero q k u = refl
  same-among p h t (suc n) q k u =
      let f = and_both (is_day b q) (dates_test b (q + 4) n) u in
      rw (same_test p q h (omega arith) t f.0, same-among p h t n (q + 4) (omega arith) f.1)

  same_count : (n q : ℕ) → q + 4 * n ≤ length b → dates_test b q n ≡ true → length (distinct (dates_at b q n)) ≡ length (distinct (words_at b q n))
  unfolding dates_test dates_at words_at distinct
  same_count zero q k u = refl
  same_count (suc n) q k u =
      let f = and_both (is_day b q) (dates_test b (q + 4) n) u in
      let r = same_count n (q + 4) (omega arith) f.1 in
      let a = same-among q (omega arith) f.0 n (q + 4) (omega arith) f.1 in
      by-test (among (words_at b (q + 4) n) (be32 b q))
      (λ e. rw (a, e) r)
      (λ e. rw (a, e) (ap suc r))

  pub counted : (p n : ℕ) {k : ℕ} → HasDates b p n → k ≡ length (distinct (words_at b p n)) → k ≡ length (distinct (dates_at b p n))
  counted p n h ek = ek ∙ sym (same_count n p h.0 (days-says b p n h.0 refl ∙ h.1))
