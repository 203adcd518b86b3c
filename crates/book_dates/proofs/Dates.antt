-- The number of a date, and the test of dates one behind the other.
use mathlib.Core.Path.{◌≡◌, refl, sym, ap, ◌∙◌}
use mathlib.Core.Bool.{Bool, ◌&&◌}
use mathlib.Core.List.{List}
use Prim.Native.Nat.{ℕ, zero, suc, ◌+◌, ◌*◌, ◌≤◌}
use native.Mathlib.Omega.{arith}
use lib.ListN.{length}
use Rattle.std.specs.List.{list_all, range_with_len}
use Rattle.big_endian.specs.Be.{be16}
use lib.IntN.{ℤ}
use Rattle.civil.specs.declared.Date.{Date}
use Rattle.std.specs.Prelude.{Option, Some, None}
use Rattle.civil.specs.Dates.{day_read}
use Rattle.civil.specs.DateLaws.{read-day, read_none, read-day-in, read_number}
use Rattle.laws_calendar.specs.Numbers.{IsDayNumber, day-given}
use Rattle.model.specs.Calendar.{is_date, first_day, last_day}
use Rattle.model.specs.DayNumber.{day_of}
use Rattle.book_dates.specs.Days.{year_in_bytes, written_year, IsWritten, date_at, day_at, dates_at, is_day}
use Rattle.book_dates.proofs.Reading.{date_test, dates_test}

-- ---- a date

-- the year, from its two bytes
pub year-is : (b : List ℕ) (p : ℕ) {n r : ℕ} → r ≡ year_in_bytes n → n ≡ be16 b p → r ≡ written_year b p
unfolding written_year
year-is b p e en = e ∙ ap year_in_bytes en

module _ (b : List ℕ) (p : ℕ) {d : Date} {r : Bool} (w : IsWritten b p d) (er : r ≡ is_date d.year d.month d.day) where
  pub date-told : r ≡ date_test b p
  unfolding date_test
  date-told = er ∙ rw (w.year, w.month, w.day)

-- its day
pub day-told : (b : List ℕ) (p : ℕ) {d : Date} {r : Option ℤ} → IsWritten b p d → r ≡ day_read d → r ≡ date_at b p
unfolding date_at
day-told b p w er = er ∙ (λ i. day_read (record { year = w.year i; month = w.month i; day = w.day i }))

-- z is the number of the day written at p
pub record IsDayAt (b : List ℕ) (p : ℕ) (z : ℤ) : Type 0 where
  pub day : day_at b p ≡ day_of z
  pub number : IsDayNumber z
  pub low : first_day ≤ day_of z
  pub high : day_of z ≤ last_day

pub day-there : (b : List ℕ) (p : ℕ) (z : ℤ) → date_at b p ≡ Some z → IsDayAt b p z
unfolding date_at day_at
day-there b p z e =
    let q = read-day _ z e in let i = read-day-in _ z e in
    record { day = rw q.0 (sym (day-given q.1)); number = read_number _ z e; low = i.0; high = i.1 }

pub no-day-there : (b : List ℕ) (p : ℕ) → date_at b p ≡ None → day_at b p ≡ 0
unfolding date_at day_at
no-day-there b p e = rw (read_none _ e)

-- ---- the dates of a record, each a date

pub length-dates : (l : List ℕ) (p n : ℕ) → length (dates_at l p n) ≡ n
unfolding dates_at
length-dates l p zero = refl
length-dates l p (suc n) = ap suc (length-dates l (p + 4) n)

-- a test of n places, four bytes apart
days-range : (l : List ℕ) (p n i : ℕ) → list_all (λ k. is_day l (p + 4 * k)) (range_with_len i n) ≡ dates_test l (p + 4 * i) n
unfolding dates_test
days-range l p zero i = refl
days-range l p (suc n) i =
    let e : p + 4 * (i + 1) ≡ p + 4 * i + 4 = omega arith in
    ap (λ (t : Bool). is_day l (p + 4 * i) && t) (days-range l p n (i + 1) ∙ ap (λ (m : ℕ). dates_test l m n) e)

pub days-all : (l : List ℕ) (p n : ℕ) → list_all (λ k. is_day l (p + 4 * k)) (range_with_len 0 n) ≡ dates_test l p n
days-all l p n = let e : p + 4 * 0 ≡ p = omega arith in days-range l p n 0 ∙ ap (λ (m : ℕ). dates_test l m n) e
