-- The tests of a date and of n dates are those of the crate `model`, which gives their days where they pass.
use Rattle.std.specs.Prelude.{if◌then◌else◌}
use mathlib.Core.Path.{◌≡◌, refl, sym, ap, ◌∙◌}
use mathlib.Core.Bool.{Bool, true, false, ◌&&◌}
use mathlib.Core.Option.{Option, some}
use mathlib.Core.List.{List, ◌∷◌}
use Prim.Native.Nat.{ℕ, zero, suc, ◌+◌, ◌*◌, ◌≤◌}
use native.Mathlib.Omega.{arith}
use lib.ListN.{length, get_or, take, drop}
use lib.Seq.{drop-drop, take-take, get_or-take, get_or-drop}
use Rattle.big_endian.specs.Be.{be16}
use Rattle.big_endian.specs.Maybe.{is_some}
use Rattle.big_endian.proofs.Lists.{at-2}
use Rattle.model.specs.Basic.{◌>>=◌, given, each}
use Rattle.model.specs.Bytes.{be, pieces}
use Rattle.model.specs.Book.{date_in}
use Rattle.model.specs.Calendar.{is_date, day_number}
use Rattle.book_dates.specs.Days.{year_in_bytes, written_year, day_at, dates_at, is_day, are_days}

-- the same, with the answer's own test
pub is-given : {A : Type 0} (m : Option A) (t : Bool) (a : A) → m ≡ given t a → (is_some m ≡ t) × (m ≡ given (is_some m) a)
is-given m true a e = (ap is_some e, rw e)
is-given m false a e = (ap is_some e, rw e)

-- ---- one date

unfoldable pub date_test : List ℕ → ℕ → Bool
date_test l p = is_date (written_year l p) (get_or l (p + 2) 0) (get_or l (p + 3) 0)

given-if : (t : Bool) (a b : ℕ) → given t a ≡ given t (if t then a else b)
given-if true a b = refl
given-if false a b = refl

date-given : (l : List ℕ) (p : ℕ) → p + 4 ≤ length l → date_in (take 4 (drop p l)) ≡ given (date_test l p) (day_at l p)
unfolding date_in date_test day_at written_year
date-given l p h =
    let a : be16 l p ≡ be 2 (drop p l) = at-2 l p (omega arith) in
    let y : ℕ = year_in_bytes (be16 l p) in
    rw (take-take 2 4 (drop p l) (omega arith), ← a, get_or-take 4 (drop p l) 2 0 (omega arith), get_or-take 4 (drop p l) 3 0 (omega arith), get_or-drop p l 2 0, get_or-drop p l 3 0)
    (given-if (is_date y (get_or l (p + 2) 0) (get_or l (p + 3) 0)) (day_number y (get_or l (p + 2) 0) (get_or l (p + 3) 0)) 0)

pub day-says : (l : List ℕ) (p : ℕ) {t : Bool} → p + 4 ≤ length l → t ≡ date_test l p → t ≡ is_day l p
unfolding is_day
day-says l p h e = e ∙ sym (is-given (date_in (take 4 (drop p l))) (date_test l p) (day_at l p) (date-given l p h)).0

day-is : (l : List ℕ) (p : ℕ) → p + 4 ≤ length l → date_in (take 4 (drop p l)) ≡ given (is_day l p) (day_at l p)
unfolding is_day
day-is l p h = (is-given (date_in (take 4 (drop p l))) (date_test l p) (day_at l p) (date-given l p h)).1

-- ---- n dates

-- the n dates from p on are dates
unfoldable pub dates_test : List ℕ → ℕ → ℕ → Bool
dates_test l p zero = true
dates_test l p (suc n) = is_day l p && dates_test l (p + 4) n

given-cons : (t u : Bool) (a : ℕ) (r : List ℕ) → (given t a >>= λ b. given u r >>= λ s. some (b ∷ s)) ≡ given (t && u) (a ∷ r)
given-cons true true a r = refl
given-cons true false a r = refl
given-cons false u a r = refl

days-given : (l : List ℕ) (n p : ℕ) → p + 4 * n ≤ length l → each date_in (pieces 4 n (drop p l)) ≡ given (dates_test l p n) (dates_at l p n)
unfolding each pieces dates_test dates_at
days-given l zero p h = refl
days-given l (suc n) p h =
    let r : each date_in (pieces 4 n (drop (p + 4) l)) ≡ given (dates_test l (p + 4) n) (dates_at l (p + 4) n) = days-given l n (p + 4) (omega arith) in
    rw (day-is l p (omega arith), drop-drop 4 p l, r) (given-cons (is_day l p) (dates_test l (p + 4) n) (day_at l p) (dates_at l (p + 4) n))

pub days-says : (l : List ℕ) (p n : ℕ) {t : Bool} → p + 4 * n ≤ length l → t ≡ dates_test l p n → t ≡ are_days l p n
unfolding are_days
days-says l p n h e = e ∙ sym (is-given (each date_in (pieces 4 n (drop p l))) (dates_test l p n) (dates_at l p n) (days-given l n p h)).0

pub days-is : (l : List ℕ) (p n : ℕ) → p + 4 * n ≤ length l → each date_in (pieces 4 n (drop p l)) ≡ given (are_days l p n) (dates_at l p n)
unfolding are_days
days-is l p n h = (is-given (each date_in (pieces 4 n (drop p l))) (dates_test l p n) (dates_at l p n) (days-given l n p h)).1
