-- The ranks of dates grow with their days: a date of a lesser or a greater rank than a window's dates have is not in it. Assumes nothing.
use Rattle.std.proofs.Common.{◌≡◌, ℕ, zero, suc, ◌+◌, ◌-◌, ◌/◌, ◌%◌, ◌<◌, ◌≤◌, Bool, true, false, ltb, leb, ◌⊎◌, List, [], get_or, ℤ, sym, refl, ap, ◌∙◌, ap₂, inl, inr, ⊎_elim, eq-or-lt_of_le, arith, le-ltb, lt-ltb, le-leb, leb-false, leb-true, if◌then◌else◌}
use borrow.Author.Tests.{lt-leb}
use Rattle.big_endian.specs.Be.{be16, be32}
use Rattle.model.specs.Basic.{is_in}
use Rattle.model.specs.Blocks.{Block}
use Rattle.model.specs.DayNumber.{day_of}
use Rattle.model.specs.Calendar.{is_leap, is_date, day_number, date_of, days_in_month, days_before_month, days_before_year}
use Rattle.laws_calendar.specs.Dates.{Has, IsDate, date-has, day-of-date, has_within, is-had, date-facts, year-mono, at-most-31, no-date}
use Rattle.laws_calendar.specs.Numbers.{IsDayNumber, day-given}
use Rattle.laws_base.specs.Test.{by-test, same_test, both-and, clash}
use Rattle.book.specs.Meaning.{written_year, day_at}
use Rattle.window_holiday.specs.Ranks.{rank, rank_of, rank_at, in_ranks, ranks_end, day_of_rank, date_of_rank}
use Rattle.civil.specs.Dates.{year_bias, day_read}
use Rattle.civil.specs.DateLaws.{day-no, read-day, read_none, read_number}
use Rattle.std.specs.Prelude.{Option, Some, None}

-- ---- the order of dates

month-mono : (l : Bool) (m k : ℕ) → days_before_month l m ≤ days_before_month l (k + m)
unfolding days_before_month
month-mono l m zero = let e : 0 + m ≡ m = omega arith in rw e (omega arith)
month-mono l m (suc k) = let h = month-mono l m k in let e : suc k + m ≡ suc (k + m) = omega arith in rw e (omega arith)

-- a month ends before a later one begins
month-ends : (l : Bool) (m n : ℕ) → m < n → days_before_month l m + days_in_month l m ≤ days_before_month l n
unfolding days_before_month
month-ends l m n h = let e : (n - suc m) + suc m ≡ n = omega arith in rw e at (month-mono l (suc m) (n - suc m))

module _ (y m d z n e : ℕ) (a : Has y m d) (b : Has z n e) where
  by-year : y < z → day_number y m d < day_number z n e
  by-year h =
      let p = has_within a in let q = has_within b in let k = year-mono {a = y + 1} {b = z} (omega arith) in
      let r = p.to in let s = q.from in omega arith

  by-month : y ≡ z → m < n → day_number y m d < day_number z n e
  unfolding day_number
  by-month h k =
      let x = ap days_before_year h in let w = ap (λ (i : ℕ). days_before_month (is_leap i) n) h in
      let p = month-ends (is_leap y) m n k in let q = a.day-low in let r = a.day-high in omega arith

  by-day : y ≡ z → m ≡ n → d < e → day_number y m d < day_number z n e
  unfolding day_number
  by-day h k o =
      let x = ap days_before_year h in let w = ap (λ (i : ℕ). days_before_month (is_leap i) m) h in let v = ap (days_before_month (is_leap z)) k in
      let q = a.day-low in omega arith

  ranks : rank (y + year_bias) m d < rank (z + year_bias) n e → day_number y m d < day_number z n e
  ranks h =
      let p = at-most-31 (is_leap y) m a.month-high in let q = at-most-31 (is_leap z) n b.month-high in
      let r = a.day-high in let s = b.day-high in let t = a.month-high in let u = b.month-high in
      let g : y ≤ z = omega arith in
      ⊎_elim (λ i. let k : m ≤ n = omega arith in ⊎_elim (λ j. by-day i j (omega arith)) (λ j. by-month i j) (eq-or-lt_of_le k)) (λ i. by-year i) (eq-or-lt_of_le g)

-- ---- ranks that are counted

pub in_count : (from count k r : ℕ) → from + count ≤ ranks_end → k < 4294967296 → r < 18446744073709551616 → (r + from) % 18446744073709551616 ≡ k → ltb r count ≡ in_ranks from count k
unfolding in_ranks
in_count from count k r h i j e =
    by-test (leb from k)
    (λ t. let l = leb-true from k t in rw t (same_test r count k (from + count) (λ x. omega arith) (λ x. omega arith)))
    (λ t. let l = leb-false from k t in rw t (le-ltb r count (omega arith)))

-- the ranks of a window's dates
pub in-as : (from to k : ℕ) → in_ranks from (to + 1 - from) k ≡ is_in from to k
unfolding in_ranks
in-as from to k =
    by-test (leb from k)
    (λ t. let l = leb-true from k t in rw t (by-test (leb k to)
    (λ u. let m = leb-true k to u in rw u (lt-ltb k (from + (to + 1 - from)) (omega arith)))
    (λ u. let m = leb-false k to u in rw u (le-ltb k (from + (to + 1 - from)) (omega arith)))))
    (λ t. rw t)

-- ---- the dates of a window

-- the rank of a date that is written
rank_is : (b : List ℕ) (p : ℕ) → 0 < written_year b p → rank_at b p ≡ rank (written_year b p + year_bias) (get_or b (p + 2) 0) (get_or b (p + 3) 0)
unfolding rank_at written_year
rank_is b p h = omega arith

-- a date of another rank is not in the window
rank-out : (b : List ℕ) (p first last from : ℕ) → 0 < first → from ≡ rank_of first → is_in from (rank_of last) (rank_at b p) ≡ false → (day_at b p < first) ⊎ (last < day_at b p)
unfolding day_at rank_of
rank-out b p first last from z h e =
    let y : ℕ = written_year b p in let m : ℕ = get_or b (p + 2) 0 in let d : ℕ = get_or b (p + 3) 0 in
    by-test (is_date y m d)
    (λ t.
    let i : IsDate y m d = date-facts t in let v : Has y m d = is-had i in
    let g = rank_is b p (let x = i.year-low in omega arith) in
    let f = day-of-date first in let l = day-of-date last in
    by-test (leb from (rank_at b p))
    (λ u. by-test (leb (rank_at b p) (rank_of last))
    (λ w. clash true refl (sym (both-and (leb from (rank_at b p)) (leb (rank_at b p) (rank_of last)) u w) ∙ e))
    (λ w. let k = ranks (date_of last).year (date_of last).month (date_of last).day y m d (date-has last) v (let x = leb-false (rank_at b p) (rank_of last) w in omega arith) in rw t (inr (omega arith))))
    (λ u. let k = ranks y m d (date_of first).year (date_of first).month (date_of first).day v (date-has first) (let x = leb-false from (rank_at b p) u in omega arith) in rw t (inl (omega arith))))
    (λ t. rw t (inl z))

-- the same by the code's test
pub rank-not : (b : List ℕ) (p first last from count k : ℕ) (r : Bool) → 0 < first → from ≡ rank_of first → count ≡ rank_of last + 1 - from → k ≡ rank_at b p → r ≡ in_ranks from count k → r ≡ false
    → (day_at b p < first) ⊎ (last < day_at b p)
rank-not b p first last from count k r z h e g q t =
    rank-out b p first last from z h (sym (in-as from (rank_of last) (rank_at b p)) ∙ sym (ap₂ (λ (i j : ℕ). in_ranks from i j) e g) ∙ sym q ∙ t)

-- ---- the code

-- the day by a rank is that of the date which is written
pub day-of-rank-is : (b : List ℕ) (p k : ℕ) → k ≡ rank_at b p → get_or b (p + 2) 0 < 256 → get_or b (p + 3) 0 < 256 → day_of_rank k ≡ day_at b p
unfolding day_of_rank day_at written_year rank_at
day-of-rank-is b p k e h g =
    let x : k / 65536 ≡ (be16 b p + 32768) % 65536 = omega arith in let m : k / 256 % 256 ≡ get_or b (p + 2) 0 = omega arith in let d : k % 256 ≡ get_or b (p + 3) 0 = omega arith in
    rw (x, m, d)

-- the same of the four bytes as one number
pub rank-read : (b : List ℕ) (p n r : ℕ) → ((k : ℕ) → get_or b k 0 < 256) → n ≡ be32 b p → r ≡ (n + 2147483648) % 4294967296 → (r ≡ rank_at b p) × (day_of_rank r ≡ day_at b p)
unfolding rank_at be16 be32
rank-read b p n r h e q =
    let x = h p in let y = h (p + 1) in let m = h (p + 2) in let d = h (p + 3) in
    let g : r ≡ rank_at b p = omega arith in (g, day-of-rank-is b p r g m d)

-- ---- the date of a rank

pub a-rank : (k y m d : ℕ) {r : Option ℤ} → k < 4294967296 → y ≡ (k / 65536 + 43168) % 65536 → m ≡ k / 256 % 256 → d ≡ k % 256 → r ≡ day_read (record { year = y; month = m; day = d }) → r ≡ date_of_rank k
unfolding date_of_rank
a-rank k y m d h p q o e =
    by-test (leb year_bias (k / 65536))
    (λ t.
    let l = leb-true year_bias (k / 65536) t in let g : y ≡ k / 65536 - year_bias = omega arith in
    e ∙ (λ i. day_read (record { year = g i; month = q i; day = o i })))
    (λ t.
    let l = leb-false year_bias (k / 65536) t in
    e ∙ sym (day-no (record { year = y; month = m; day = d }) (no-date (λ v. let x = v.year-high in omega arith)))
    ∙ day-no (record { year = k / 65536 - year_bias; month = k / 256 % 256; day = k % 256 }) (no-date (λ v. let x = v.year-low in omega arith)))

-- no date has day 0
pub rank-none : (k : ℕ) {r : Option ℤ} → r ≡ date_of_rank k → r ≡ None → day_of_rank k ≡ 0
unfolding date_of_rank day_of_rank
rank-none k e h = rw (read_none _ (sym e ∙ h))

pub rank-day : (k : ℕ) {r : Option ℤ} {z : ℤ} → r ≡ date_of_rank k → r ≡ Some z → day_of_rank k ≡ day_of z
unfolding date_of_rank day_of_rank
rank-day k {z = z} e h = let q = read-day _ z (sym e ∙ h) in rw q.0 (sym (day-given q.1))

pub rank-number : (k : ℕ) {r : Option ℤ} {z : ℤ} → r ≡ date_of_rank k → r ≡ Some z → IsDayNumber z
unfolding date_of_rank
rank-number k {z = z} e h = read_number _ z (sym e ∙ h)

-- ---- a date that the window has, or has not

module _ (a b n : ℕ) (l : List Block) where
  pub piece-before : n < a → (if is_in a b n then l else []) ≡ []
  piece-before h = rw (lt-leb a n h)

  pub piece-behind : a ≤ n → b < n → (if is_in a b n then l else []) ≡ []
  piece-behind h k = rw (le-leb a n h, lt-leb n b k)

  pub piece_inside : a ≤ n → n ≤ b → l ≡ (if is_in a b n then l else [])
  piece_inside h k = rw (le-leb a n h, le-leb n b k)
