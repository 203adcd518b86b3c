-- The changes of a footer. Document 01: "the latest of all years' changes counts; on a tie daylight time starts". `latest` looks at four years:
-- here no change of any year at or before a second is later than the one it takes.
use Rattle.std.specs.Prelude.{◌≡◌, Bool, true, false, ◌&&◌, List, [], ◌∷◌, map, ◌⊎◌, ℕ, ◌+◌, ◌*◌, ◌-◌, ◌/◌, ◌%◌, max, ◌≤◌, ◌<◌, ltb, if◌then◌else◌}
use Rattle.std.proofs.Math.Path.{refl}
use Rattle.std.proofs.Common.{sym, subst, arith, le-leb}
use Rattle.std.proofs.Math.Logic.{inl, inr}
use Rattle.std.proofs.Math.Decide.{dec_le}
use Rattle.std.proofs.Math.Dec.{leb, leb→le}
use Rattle.std.proofs.lemmas.Bool.{lt-leb}
use Rattle.model.specs.Basic.{run, maximum, filter}
use Rattle.model.specs.Calendar.{is_leap, days_before_year, days_before_month, days_in_month, day_number, weekday}
use Rattle.model.specs.Footer.{Day, month, julian, plain, ChangeRule, rules, day_in, change_in, time_bias, latest_time}
use Rattle.model.specs.Zone.{latest, year_at, ruled_at}
use Rattle.laws_base.specs.Test.{by-test, by-either, test_of}
use Rattle.laws_base.specs.Members.{Member, filter_passes, filter-keeps, in_map, in-run, max-above, max-below}
use Rattle.laws_base.specs.Claim.{le, both, all_below, at_each}
use Rattle.laws_calendar.specs.Years.{dby-hi, dby-lo, year-from, year-to}
use Rattle.model.specs.Offset.{greatest_offset, offset_bias}
use Rattle.model.specs.Instant.{day_seconds}

-- ---- what the grammar allows

abbrev pub DayFits : Day → Type 0
DayFits (month m w d) = (1 ≤ m) × (m ≤ 12) × (1 ≤ w) × (w ≤ 5) × (d ≤ 6)
DayFits (julian n) = (1 ≤ n) × (n ≤ 365)
DayFits (plain n) = n ≤ 365

pub record ChangeRuleFits (r : ChangeRule) : Type 0 where
  pub day-fits : DayFits r.day
  pub time-fits : r.time ≤ latest_time

-- ---- the day of a change in a year

bit_le : (b : Bool) → (if b then 1 else 0) ≤ 1
bit_le true = omega arith
bit_le false = omega arith

-- where the month m begins in a common year
abbrev begins : ℕ → ℕ
begins m = days_before_month false m

months : (m : ℕ) → m < 13 → (begins m ≤ days_before_month true m) × ((days_before_month true m ≤ begins m + 1) × (begins m ≤ 334))
unfolding days_before_month days_in_month all_below
months = at_each (λ m. both (le (begins m) (days_before_month true m)) (both (le (days_before_month true m) (begins m + 1)) (le (begins m) 334))) 13 tt

begins-lo : (b : Bool) (m : ℕ) → m ≤ 12 → begins m ≤ days_before_month b m
begins-lo true m h = (months m (omega arith)).0
begins-lo false m h = omega arith

begins-hi : (b : Bool) (m : ℕ) → m ≤ 12 → days_before_month b m ≤ begins m + 1
begins-hi true m h = (months m (omega arith)).1.0
begins-hi false m h = omega arith

first-lo : (y m : ℕ) → m ≤ 12 → days_before_year y + begins m ≤ day_number y m 1
unfolding day_number
first-lo y m h = omega (arith, begins-lo (is_leap y) m h)

first-hi : (y m : ℕ) → m ≤ 12 → day_number y m 1 ≤ days_before_year y + begins m + 1
unfolding day_number
first-hi y m h = omega (arith, begins-hi (is_leap y) m h)

-- a day in the month's first week, and weeks behind it
shift-lt : (a b : ℕ) → (a - b) % 7 < 7
shift-lt a b = omega arith

month-lo : (y m w d : ℕ) → m ≤ 12 → days_before_year y + begins m + 7 * (w - 1) ≤ day_in y (month m w d) + 7
unfolding day_in
month-lo y m w d h =
    let n = day_number y m 1 + (d + 13 - weekday (day_number y m 1)) % 7 + 7 * (w - 1) in
    let a : days_before_year y + begins m + 7 * (w - 1) ≤ n + 7 = omega (arith, first-lo y m h) in
    let b : days_before_year y + begins m + 7 * (w - 1) ≤ n - 7 + 7 = omega (arith, first-lo y m h) in
    by-test (ltb n (day_number y m 1 + days_in_month (is_leap y) m)) (λ e. rw e a) (λ e. rw e b)

month-hi : (y m w d : ℕ) → m ≤ 12 → day_in y (month m w d) ≤ days_before_year y + begins m + 7 * (w - 1) + 7
unfolding day_in
month-hi y m w d h =
    let n = day_number y m 1 + (d + 13 - weekday (day_number y m 1)) % 7 + 7 * (w - 1) in
    let k = shift-lt (d + 13) (weekday (day_number y m 1)) in
    let a : n ≤ days_before_year y + begins m + 7 * (w - 1) + 7 = omega (arith, first-hi y m h) in
    let b : n - 7 ≤ days_before_year y + begins m + 7 * (w - 1) + 7 = omega (arith, first-hi y m h) in
    by-test (ltb n (day_number y m 1 + days_in_month (is_leap y) m)) (λ e. rw e a) (λ e. rw e b)

pub day-lo : (y : ℕ) (d : Day) → DayFits d → days_before_year y ≤ day_in y d + 7
unfolding day_in
day-lo y (month m w d) h = omega (arith, month-lo y m w d h.1)
day-lo y (julian n) h = omega arith
day-lo y (plain n) h = omega arith

pub day-hi : (y : ℕ) (d : Day) → DayFits d → day_in y d ≤ days_before_year y + 371
unfolding day_in
day-hi y (month m w d) h = omega (arith, h.3, month-hi y m w d h.1, (months m (omega (arith, h.1))).1.1)
day-hi y (julian n) h = omega (arith, h.1, bit_le (is_leap y && leb 60 n))
day-hi y (plain n) h = omega arith

-- later years have later days
day-rises : (a b : ℕ) (d : Day) → DayFits d → a < b → day_in a d ≤ day_in b d
unfolding day_in
day-rises a b (month m w d) f h = omega (arith, month-hi a m w d f.1, month-lo b m w d f.1, dby-hi a, dby-lo b)
day-rises a b (julian n) f h = omega (arith, bit_le (is_leap a && leb 60 n), dby-hi a, dby-lo b)
day-rises a b (plain n) f h = omega (arith, dby-hi a, dby-lo b)

-- within its year the day varies by at most two weeks from one year to another
day-varies : (y z : ℕ) (d : Day) → DayFits d → day_in z d + days_before_year y ≤ day_in y d + days_before_year z + 14
unfolding day_in
day-varies y z (month m w d) f = omega (arith, month-hi z m w d f.1, month-lo y m w d f.1)
day-varies y z (julian n) f = omega (arith, bit_le (is_leap z && leb 60 n))
day-varies y z (plain n) f = omega arith

-- ---- the greatest of a list is one of them, or 0

max-in : (l : List ℕ) → (maximum l ≡ 0) ⊎ Member (maximum l) l
max-in [] = inl refl
max-in (n ∷ l) = go (dec_le (maximum l) n) (max-in l)
  where
    go : Dec (maximum l ≤ n) → (maximum l ≡ 0) ⊎ Member (maximum l) l → (max n (maximum l) ≡ 0) ⊎ Member (max n (maximum l)) (n ∷ l)
    go (yes h) r = inr (inl (omega arith))
    go (no h) (inl p) = absurd (omega arith)
    go (no h) (inr q) = let e : max n (maximum l) ≡ maximum l = omega arith in inr (inr (subst (λ (x : ℕ). Member x l) (sym e) q))

-- a member of a filtered list is one of the list
filter-in : (t : ℕ → Bool) (l : List ℕ) (u : ℕ) → Member u (filter t l) → Member u l
unfolding filter
filter-in t [] u h = h
filter-in t (n ∷ l) u h =
    by-test (t n)
    (λ e. by-either (λ (p : u ≡ n). inl p) (λ (q : Member u (filter t l)). inr (filter-in t l u q)) (rw e at h))
    (λ e. inr (filter-in t l u (rw e at h)))

-- a member of a mapped list is the value at one of the list
map-in : (f : ℕ → ℕ) (l : List ℕ) (u : ℕ) → Member u (map f l) → (y : ℕ) × (Member y l) × (f y ≡ u)
map-in f [] u h = absurd h
map-in f (n ∷ l) u (inl p) = (n, inl refl, sym p)
map-in f (n ∷ l) u (inr q) = let r = map-in f l u q in (r.0, inr r.1, r.2)

-- ---- what `latest` gives, of any changes

module _ (change : ℕ → ℕ) (u : ℕ) where
  abbrev looked : List ℕ
  looked = map change (run (year_at u - 2) 4)

  -- 0, or the change of a year ..
  pub latest-is : (latest change u ≡ 0) ⊎ ((y : ℕ) × (change y ≡ latest change u))
  unfolding latest
  latest-is =
      by-either (λ p. inl p)
      (λ h. let r = map-in change (run (year_at u - 2) 4) _ (filter-in (λ c. leb c u) looked _ h) in inr (r.0, r.2))
      (max-in (filter (λ c. leb c u) looked))

  -- .. at or before u
  pub latest-le : latest change u ≤ u
  unfolding latest
  latest-le = max-below (filter (λ c. leb c u) looked) u (λ c h. leb→le c u (test_of (leb c u) (filter_passes (λ d. leb d u) looked c h)))

  latest-above : (y : ℕ) → Member y (run (year_at u - 2) 4) → change y ≤ u → change y ≤ latest change u
  unfolding latest
  latest-above y h k =
      max-above (filter (λ c. leb c u) looked) (change y)
      (filter-keeps (λ c. leb c u) looked (change y) (in_map change (run (year_at u - 2) 4) y h) (le-leb _ _ k))

-- ---- the change of a year

module _ (o : ℕ) (r : ChangeRule) (ho : o ≤ greatest_offset) (f : ChangeRuleFits r) where
  change-hi : (y : ℕ) → change_in o r y ≤ days_before_year y * day_seconds + 32752800
  unfolding change_in
  change-hi y = omega (arith, day-hi y r.day f.day-fits)

  change-lo : (y : ℕ) → days_before_year y * day_seconds ≤ change_in o r y + 1303200
  unfolding change_in
  change-lo y = omega (arith, day-lo y r.day f.day-fits)

  pub change-rises : (a b : ℕ) → a < b → change_in o r a ≤ change_in o r b
  unfolding change_in
  change-rises a b h = omega (arith, day-rises a b r.day f.day-fits h)

  -- .. and within its year a change varies by at most two weeks
  pub change-varies : (y z : ℕ) → 1 ≤ z → change_in o r z + days_before_year y * day_seconds ≤ change_in o r y + days_before_year z * day_seconds + 1209600
  unfolding change_in
  change-varies y z h = omega (arith, day-varies y z r.day f.day-fits, day-lo z r.day f.day-fits, dby-lo z)

  -- when it comes, the clock that it ends shows its time on its day
  pub change-reads : (y : ℕ) → 1 ≤ y → change_in o r y + o + time_bias ≡ day_in y r.day * day_seconds + r.time + offset_bias
  unfolding change_in
  change-reads y h = omega (arith, day-lo y r.day f.day-fits, dby-lo y)

  -- the change of two years before u's year has come, and that of two years after it has not
  pub two-before : (u : ℕ) → 2 ≤ year_at u → change_in o r (year_at u - 2) ≤ u
  two-before u h = omega (arith, change-hi (year_at u - 2), year-from (u / day_seconds), dby-hi (year_at u - 2), dby-lo (year_at u))

  pub two-after : (u y : ℕ) → year_at u + 2 ≤ y → u < change_in o r y
  two-after u y h = omega (arith, change-lo y, year-to (u / day_seconds), dby-hi (year_at u), dby-lo y)

  -- no year's change at or before u is later than the one that `latest` takes
  pub latest-of-all : (u y : ℕ) → change_in o r y ≤ u → change_in o r y ≤ latest (change_in o r) u
  latest-of-all u y k = go (dec_le (year_at u - 2) y) (dec_le (year_at u - 2 + 4) y)
    where
      go : Dec (year_at u - 2 ≤ y) → Dec (year_at u - 2 + 4 ≤ y) → change_in o r y ≤ latest (change_in o r) u
      go (yes p) (yes q) = absurd (omega (arith, k, two-after u y (omega arith)))
      go (yes p) (no q) = latest-above (change_in o r) u y (in-run 4 (year_at u - 2) y p (omega arith)) k
      go (no p) q =
          omega (
            arith,
            change-rises y (year_at u - 2) (omega arith),
            latest-above (change_in o r) u (year_at u - 2) (in-run 4 (year_at u - 2) (year_at u - 2) (omega arith) (omega arith)) (two-before u (omega arith)),
          )

-- ---- the tie

module _ (std dst : ℕ) (start end : ChangeRule) (o u : ℕ) where
  -- daylight time, where the latest start is at or after the latest end; else standard time
  pub daylight : latest (change_in dst end) u ≤ latest (change_in std start) u → ruled_at (rules std dst start end) o u ≡ dst
  unfolding ruled_at
  daylight h = rw (le-leb _ _ h) refl

  pub standard : latest (change_in std start) u < latest (change_in dst end) u → ruled_at (rules std dst start end) o u ≡ std
  unfolding ruled_at
  standard h = rw (lt-leb _ _ h) refl
