-- The numbers of days: each day's number gives that day back, sums, differences and order are those of the days, and all fit 32 bits. Document 02,
-- request 3: "those of dates lie between -4,371,587 and 2,932,896 [..], and each date's number gives that date back".
use Rattle.std.specs.Prelude.{◌≡◌, refl, Bool, true, false, ℕ, zero, suc, ◌+◌, ◌-◌, ◌≤◌, ◌<◌, ltb, ℤ, pos, negsuc, ◌+ℤ◌, ◌-ℤ◌, ◌≤ℤ◌}
use Rattle.std.proofs.Common.{sym, ap, ap₂, ◌∙◌, arith, leb→le, SFits, to_z, of_z, to_z-of_z, ltb-true, ltb-false, lt-ltb, le-ltb}
use Rattle.std.specs.Int.Signed.{lt_z, lt_z_no, mag}
use Rattle.std.specs.Int.{w32}
use Rattle.model.specs.DayNumber.{epoch_day, signed_day, day_of}
use Rattle.model.specs.Calendar.{is_date, day_number, date, date_of, first_day, last_day}
use Rattle.laws_base.specs.Test.{by-test, same_test}
use Rattle.laws_calendar.specs.Dates.{date-facts, day-from, day-to, date-of-number, number-of-date, number-is-date}

-- ---- which numbers are those of days

-- how many days have numbers: all of these fit 32 bits, as do those before 1970
abbrev pub numbered : ℕ
numbered = 2147483648

-- z is the number of a day
pub record IsDayNumber (z : ℤ) : Type 0 where
  pub back : z ≡ signed_day (day_of z)
  pub small : day_of z < numbered

number-low : (n : ℕ) → n < epoch_day → signed_day n ≡ negsuc (epoch_day - suc n)
unfolding signed_day
number-low n h = simp (lt-ltb n epoch_day h)

number-high : (n : ℕ) → epoch_day ≤ n → signed_day n ≡ pos (n - epoch_day)
unfolding signed_day
number-high n h = simp (le-ltb n epoch_day h)

day-pos : (n : ℕ) → day_of (pos n) ≡ epoch_day + n
unfolding day_of
day-pos n = refl

day-neg : (n : ℕ) → day_of (negsuc n) ≡ epoch_day - suc n
unfolding day_of
day-neg n = refl

-- before 1970, or from there on
by-epoch : {P : Type 0} (n : ℕ) → (n < epoch_day → P) → (epoch_day ≤ n → P) → P
by-epoch n f g = by-test (ltb n epoch_day) (λ t. f (ltb-true n epoch_day t)) (λ t. g (ltb-false n epoch_day t))

-- a day's number gives that day back
pub day-of-number : (n : ℕ) → day_of (signed_day n) ≡ n
day-of-number n =
    by-epoch n (λ h. ap day_of (number-low n h) ∙ day-neg (epoch_day - suc n) ∙ omega arith) (λ h. ap day_of (number-high n h) ∙ day-pos (n - epoch_day) ∙ omega arith)

-- and a number's day that number
number-pos : (n : ℕ) → signed_day (day_of (pos n)) ≡ pos n
number-pos n = ap signed_day (day-pos n) ∙ number-high (epoch_day + n) (omega arith) ∙ ap pos (omega arith)

number-neg : (n : ℕ) → n < epoch_day → signed_day (day_of (negsuc n)) ≡ negsuc n
number-neg n h = ap signed_day (day-neg n) ∙ number-low (epoch_day - suc n) (omega arith) ∙ ap negsuc (omega arith)

-- numbers of days that fit
number_is : (n : ℕ) → n < numbered → IsDayNumber (signed_day n)
number_is n h = record { back = ap signed_day (sym (day-of-number n)); small = omega (arith, day-of-number n) }

mag-least : (n : ℕ) → n < numbered → mag (signed_day n) < numbered
mag-least n h = by-epoch n (λ l. let e : mag (signed_day n) ≡ epoch_day - suc n = ap mag (number-low n l) in omega arith) (λ l. let e : mag (signed_day n) ≡ n - epoch_day = ap mag (number-high n l) in omega arith)

pub number_fits : (n : ℕ) → n < numbered → SFits w32 (signed_day n)
number_fits n h = record { sfits = mag-least n h }

pub is-fits : {z : ℤ} → IsDayNumber z → SFits w32 z
is-fits {z} v = rw v.back (number_fits (day_of z) v.small)

-- a sum
number-plus : (n m : ℕ) → signed_day n +ℤ pos m ≡ signed_day (n + m)
number-plus n m =
    by-epoch n
    (λ h. ap (λ (z : ℤ). z +ℤ pos m) (number-low n h) ∙ by-epoch (n + m)
    (λ k. let e : m < suc (epoch_day - suc n) = omega arith in simp (lt-ltb _ _ e) (ap negsuc (omega arith)) ∙ sym (number-low (n + m) k))
    (λ k. let e : suc (epoch_day - suc n) ≤ m = omega arith in simp (le-ltb _ _ e) (ap pos (omega arith)) ∙ sym (number-high (n + m) k)))
    (λ h. ap (λ (z : ℤ). z +ℤ pos m) (number-high n h) ∙ ap pos (omega arith) ∙ sym (number-high (n + m) (omega arith)))

pub add_is : {z : ℤ} → IsDayNumber z → (m : ℕ) → z +ℤ pos m ≡ signed_day (day_of z + m)
add_is {z} v m = ap (λ (x : ℤ). x +ℤ pos m) v.back ∙ number-plus (day_of z) m

-- a difference
idr : (z : ℤ) → z -ℤ pos 0 ≡ z
idr (pos n) = ap pos (omega arith)
idr (negsuc n) = let e : 0 < suc n = omega arith in simp (lt-ltb _ _ e) (ap negsuc (omega arith))

sub_low : (a b : ℕ) → a ≤ b → b < epoch_day → negsuc (epoch_day - suc b) -ℤ negsuc (epoch_day - suc a) ≡ pos (b - a)
sub_low a b h k = let e : suc (epoch_day - suc b) ≤ suc (epoch_day - suc a) = omega arith in simp (le-ltb _ _ e) (ap pos (omega arith))

sub-high : (x y : ℕ) → x ≤ y → pos y -ℤ pos x ≡ pos (y - x)
sub-high zero y k = ap pos (omega arith)
sub-high (suc x) y k = simp (le-ltb _ _ k)

number-minus : (a b : ℕ) → a ≤ b → signed_day b -ℤ signed_day a ≡ pos (b - a)
number-minus a b h =
    by-epoch b
    (λ k. ap₂ (λ (x y : ℤ). x -ℤ y) (number-low b k) (number-low a (omega arith)) ∙ sub_low a b h k)
    (λ k. by-epoch a
    (λ l. ap₂ (λ (x y : ℤ). x -ℤ y) (number-high b k) (number-low a l) ∙ ap pos (omega arith))
    (λ l. ap₂ (λ (x y : ℤ). x -ℤ y) (number-high b k) (number-high a l) ∙ sub-high (a - epoch_day) (b - epoch_day) (omega arith) ∙ ap pos (omega arith)))

pub apart-is : {a b : ℤ} → IsDayNumber a → IsDayNumber b → day_of a ≤ day_of b → b -ℤ a ≡ pos (day_of b - day_of a)
apart-is {a} {b} u v h = ap₂ (λ (x y : ℤ). x -ℤ y) v.back u.back ∙ number-minus (day_of a) (day_of b) h

number-less : (n m : ℕ) → m ≤ n → signed_day n -ℤ pos m ≡ signed_day (n - m)
number-less n zero h = idr (signed_day n) ∙ ap signed_day (omega arith)
number-less n (suc m) h =
    by-epoch n
    (λ k. ap (λ (z : ℤ). z +ℤ negsuc m) (number-low n k) ∙ ap negsuc (omega arith) ∙ sym (number-low (n - suc m) (omega arith)))
    (λ k. ap (λ (z : ℤ). z +ℤ negsuc m) (number-high n k) ∙ by-epoch (n - suc m)
    (λ l. let e : n - epoch_day < suc m = omega arith in simp (lt-ltb _ _ e) (ap negsuc (omega arith)) ∙ sym (number-low (n - suc m) l))
    (λ l. let e : suc m ≤ n - epoch_day = omega arith in simp (le-ltb _ _ e) (ap pos (omega arith)) ∙ sym (number-high (n - suc m) l)))

pub take-is : {z : ℤ} → IsDayNumber z → (m : ℕ) → m ≤ day_of z → z -ℤ pos m ≡ signed_day (day_of z - m)
take-is {z} v m h = ap (λ (x : ℤ). x -ℤ pos m) v.back ∙ number-less (day_of z) m h

-- the order
number_lt : (a b : ℕ) → lt_z (signed_day a) (signed_day b) ≡ ltb a b
number_lt a b =
    by-epoch a
    (λ h. by-epoch b
    (λ k. ap₂ lt_z (number-low a h) (number-low b k) ∙ same_test (epoch_day - suc b) (epoch_day - suc a) a b (λ e. omega arith) (λ e. omega arith))
    (λ k. ap₂ lt_z (number-low a h) (number-high b k) ∙ sym (lt-ltb a b (omega arith))))
    (λ h. by-epoch b
    (λ k. ap₂ lt_z (number-high a h) (number-low b k) ∙ sym (le-ltb a b (omega arith)))
    (λ k. ap₂ lt_z (number-high a h) (number-high b k) ∙ same_test (a - epoch_day) (b - epoch_day) a b (λ e. omega arith) (λ e. omega arith)))

pub number-le : (a b : ℕ) → a ≤ b → signed_day a ≤ℤ signed_day b
number-le a b h = lt_z_no (rw (number_lt b a ∙ le-ltb b a h) tt)

order_is : {a b : ℤ} → IsDayNumber a → IsDayNumber b → lt_z a b ≡ ltb (day_of a) (day_of b)
order_is {a} {b} u v = ap₂ lt_z u.back v.back ∙ number_lt (day_of a) (day_of b)

-- the day that has the number a is before the one that has b
unfoldable pub is_before : ℤ → ℤ → Bool
is_before a b = ltb (day_of a) (day_of b)

pub before-is : {a b : ℤ} → IsDayNumber a → IsDayNumber b → lt_z a b ≡ is_before a b
unfolding is_before
before-is u v = order_is u v

-- what the test tells
pub told-before : {t : Bool} (a b : ℤ) → t ≡ is_before a b → t ≡ true → day_of a < day_of b
unfolding is_before
told-before a b e p = ltb-true (day_of a) (day_of b) (sym e ∙ p)

pub told-not : {t : Bool} (a b : ℤ) → t ≡ is_before a b → t ≡ false → day_of b ≤ day_of a
unfolding is_before
told-not a b e p = ltb-false (day_of a) (day_of b) (sym e ∙ p)

-- ---- numbers as a function is given them, and as it gives them

-- the number of the day n
pub is_number : {z : ℤ} {n : ℕ} → z ≡ signed_day n → n < numbered → IsDayNumber z
is_number {z} {n} e h = rw e (number_is n h)

pub day-given : {z : ℤ} {n : ℕ} → z ≡ signed_day n → day_of z ≡ n
day-given {z} {n} e = ap day_of e ∙ day-of-number n

-- it goes through its 32 bits unchanged
pub bits-number : {z : ℤ} {n : ℕ} → z ≡ signed_day n → n < numbered → to_z w32 (of_z w32 z) ≡ signed_day n
bits-number {z} {n} e h = ap (λ (x : ℤ). to_z w32 (of_z w32 x)) e ∙ to_z-of_z (number_fits n h)

pub bits-day : {z : ℤ} {n : ℕ} → z ≡ signed_day n → n < numbered → day_of (to_z w32 (of_z w32 z)) ≡ n
bits-day e h = day-given (bits-number e h)

pub bits_is : {z : ℤ} {n : ℕ} → z ≡ signed_day n → n < numbered → IsDayNumber (to_z w32 (of_z w32 z))
bits_is e h = is_number (bits-number e h) h

-- a function that gives on what it was given
pub gives-on : {z : ℤ} {m n : ℕ} → mag z < numbered → z ≡ signed_day m → m ≡ n → to_z w32 (of_z w32 z) ≡ signed_day n
gives-on f e h = to_z-of_z {w = w32} (record { sfits = f }) ∙ e ∙ ap signed_day h

-- so does every number of 32 bits
pub day-bits : {z : ℤ} → SFits w32 z → day_of (to_z w32 (of_z w32 z)) ≡ day_of z
day-bits f = ap day_of (to_z-of_z f)

-- a number between those of two days is a day's
pub number-within : (z : ℤ) → 0 < day_of z → day_of z < numbered → IsDayNumber z
number-within (pos n) h k = record { back = sym (number-pos n); small = k }
number-within (negsuc n) h k = record { back = sym (number-neg n (omega (arith, day-neg n))); small = k }

-- ---- the first day of the definitions

pub start-day : day_of (negsuc 4518049) ≡ 0
unfolding day_of
start-day = refl

-- ---- dates

first-number : signed_day first_day ≡ negsuc 4371586
unfolding signed_day
first-number = refl

last-number : signed_day last_day ≡ pos 2932896
unfolding signed_day
last-number = refl

-- "those of dates lie between -4,371,587 and 2,932,896"
pub date-bounds : (y m d : ℕ) → is_date y m d ≡ true → (negsuc 4371586 ≤ℤ signed_day (day_number y m d)) × (signed_day (day_number y m d) ≤ℤ pos 2932896)
date-bounds y m d e =
    let v = date-facts {y = y} {m = m} {d = d} e in
    (rw (← first-number) (number-le first_day (day_number y m d) (day-from v)), rw (← last-number) (number-le (day_number y m d) last_day (day-to v)))

-- "each date's number gives that date back"
pub date-of-its-number : (y m d : ℕ) → is_date y m d ≡ true → date_of (day_of (signed_day (day_number y m d))) ≡ date y m d
date-of-its-number y m d e = ap date_of (day-of-number (day_number y m d)) ∙ date-of-number y m d e

-- each number between these two is that of a date, and comes back from it
days-between : (z : ℤ) → negsuc 4371586 ≤ℤ z → z ≤ℤ pos 2932896 → (first_day ≤ day_of z) × (day_of z ≤ last_day)
days-between (pos n) h k = let b = leb→le n 2932896 k.le in (omega (arith, day-pos n), omega (arith, day-pos n))
days-between (negsuc n) h k = let b = leb→le n 4371586 h.le in (omega (arith, day-neg n), omega (arith, day-neg n))

pub number-of-its-date : (z : ℤ) → negsuc 4371586 ≤ℤ z → z ≤ℤ pos 2932896
    → (is_date (date_of (day_of z)).year (date_of (day_of z)).month (date_of (day_of z)).day ≡ true)
    × (signed_day (day_number (date_of (day_of z)).year (date_of (day_of z)).month (date_of (day_of z)).day) ≡ z)
number-of-its-date z h k =
    let b = days-between z h k in
    let v = number-within z (omega (arith, b.0)) (omega (arith, b.1)) in
    (number-is-date (day_of z) b.0 b.1, ap signed_day (number-of-date (day_of z)) ∙ sym v.back)
