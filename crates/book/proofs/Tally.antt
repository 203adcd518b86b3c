-- Sums over the book's records and the default zone that wins: one step of each loop, and its end.
use Rattle.std.specs.Prelude.{if◌then◌else◌}
use mathlib.Core.Path.{◌≡◌, refl, sym, ◌∙◌}
use mathlib.Core.Bool.{Bool, false, ◌&&◌}
use mathlib.Core.Option.{Option, none, some}
use mathlib.Core.List.{List, [], ◌∷◌}
use Prim.Native.Nat.{ℕ, zero, suc, ◌+◌, ◌*◌, ◌≤◌, ◌<◌}
use native.Mathlib.Nat.{le_of_suc-le-suc, not-suc-le-zero}
use native.Mathlib.Numerals.{add-one}
use native.Mathlib.Omega.{arith}
use lib.Dec.{leb, eqb}
use lib.ListN.{length, get_or, drop, get_elem?, drop_of_length-le}
use lib.Seq.{drop-cons}
use borrow.Author.Tests.{le-leb, lt-leb, eq-eqb, ne_eqb}
use Rattle.big_endian.specs.Be.{two_bytes}
use Rattle.model.specs.Basic.{sum}
use Rattle.model.specs.Book as model
use Rattle.model.specs.Book.{Body, default, work, pause, holidays, works, pauses, holiday_records, dates, tally, within_limits, is_default, last_default}
use Rattle.book.specs.declared.Tallies.{Tallies}
use Rattle.book.specs.Limits.{most_records, most_work, most_breaks, most_holidays, most_dates}
use Rattle.book.specs.Meaning.{records_of, work_kind, break_kind, holidays_kind, kind_of, of_kind, no_entry, kind_at, dates_in, tallies_of}

-- ---- sums over the records

pub tally-more : (f : Body → ℕ) (l : List model.Entry) (i : ℕ) → i < length l → tally f (drop i l) ≡ f (get_or l i no_entry).body + tally f (drop (i + 1) l)
unfolding sum
tally-more f l i h = rw (add-one i, drop-cons l i no_entry h)

tally-end : (f : Body → ℕ) (l : List model.Entry) (i s : ℕ) {t : ℕ} → length l ≤ i → s + tally f (drop i l) ≡ t → s ≡ t
unfolding sum
tally-end f l i s {t} h inv = let z : s + 0 ≡ t = rw (drop_of_length-le l h) at inv in omega arith

-- the tallies of the first i records, and of the others
pub record Summing (l : List model.Entry) (i w p c d : ℕ) : Type 0 where
  pub work : w + tally (of_kind 1) (drop i l) ≡ tally (of_kind 1) l
  pub breaks : p + tally (of_kind 2) (drop i l) ≡ tally (of_kind 2) l
  pub holidays : c + tally (of_kind 3) (drop i l) ≡ tally (of_kind 3) l
  pub dates : d + tally dates (drop i l) ≡ tally dates l
  pub work-few : w ≤ i
  pub breaks-few : p ≤ i
  pub holidays-few : c ≤ i
  pub dates-few : d ≤ two_bytes * i

pub summing_start : (l : List model.Entry) → Summing l 0 0 0 0 0
summing_start l = record {
  work = omega arith;
  breaks = omega arith;
  holidays = omega arith;
  dates = omega arith;
  work-few = omega arith;
  breaks-few = omega arith;
  holidays-few = omega arith;
  dates-few = omega arith;
}

-- what a body of a kind adds
of-kind : (x : Body) (j k : ℕ) → kind_of x ≡ j → of_kind k x ≡ (if eqb j k then 1 else 0)
unfolding of_kind
of-kind x j k e = rw e

no-dates : (x : Body) → (kind_of x ≡ 3 → ⊥) → dates x ≡ 0
no-dates default n = refl
no-dates (work h) n = refl
no-dates (pause h) n = refl
no-dates (holidays l) n = absurd (n refl)

module _ (b : List ℕ) (i : ℕ) {w p c d j : ℕ} (s : Summing (records_of b) i w p c d) (h : i < length (records_of b)) (ej : j ≡ kind_at b i) where
  kinds-more : (k : ℕ) → tally (of_kind k) (drop i (records_of b)) ≡ (if eqb j k then 1 else 0) + tally (of_kind k) (drop (i + 1) (records_of b))
  unfolding kind_at
  kinds-more k = tally-more (of_kind k) (records_of b) i h ∙ rw (of-kind (get_or (records_of b) i no_entry).body j k (sym ej))

  others-more : (j ≡ 3 → ⊥) → tally dates (drop i (records_of b)) ≡ tally dates (drop (i + 1) (records_of b))
  unfolding kind_at
  others-more n = omega (arith, tally-more dates (records_of b) i h, no-dates (get_or (records_of b) i no_entry).body (λ q. n (ej ∙ q)))

  holidays-more : {n : ℕ} → n ≡ dates_in b i → tally dates (drop i (records_of b)) ≡ n + tally dates (drop (i + 1) (records_of b))
  unfolding dates_in
  holidays-more e = tally-more dates (records_of b) i h ∙ rw (← e)

  pub summing-work : j ≡ 1 → Summing (records_of b) (i + 1) (w + 1) p c d
  summing-work q = record {
    work = omega (arith, s.work, rw q at (kinds-more 1));
    breaks = omega (arith, s.breaks, rw q at (kinds-more 2));
    holidays = omega (arith, s.holidays, rw q at (kinds-more 3));
    dates = omega (arith, s.dates, others-more (λ z. omega arith));
    work-few = omega (arith, s.work-few);
    breaks-few = omega (arith, s.breaks-few);
    holidays-few = omega (arith, s.holidays-few);
    dates-few = omega (arith, s.dates-few);
  }

  pub summing-break : j ≡ 2 → Summing (records_of b) (i + 1) w (p + 1) c d
  summing-break q = record {
    work = omega (arith, s.work, rw q at (kinds-more 1));
    breaks = omega (arith, s.breaks, rw q at (kinds-more 2));
    holidays = omega (arith, s.holidays, rw q at (kinds-more 3));
    dates = omega (arith, s.dates, others-more (λ z. omega arith));
    work-few = omega (arith, s.work-few);
    breaks-few = omega (arith, s.breaks-few);
    holidays-few = omega (arith, s.holidays-few);
    dates-few = omega (arith, s.dates-few);
  }

  pub summing-holidays : {n : ℕ} → j ≡ 3 → n ≡ dates_in b i → n < two_bytes → Summing (records_of b) (i + 1) w p (c + 1) (d + n)
  summing-holidays q e k = record {
    work = omega (arith, s.work, rw q at (kinds-more 1));
    breaks = omega (arith, s.breaks, rw q at (kinds-more 2));
    holidays = omega (arith, s.holidays, rw q at (kinds-more 3));
    dates = omega (arith, s.dates, holidays-more e);
    work-few = omega (arith, s.work-few);
    breaks-few = omega (arith, s.breaks-few);
    holidays-few = omega (arith, s.holidays-few);
    dates-few = omega (arith, s.dates-few);
  }

  pub summing-other : (j ≡ 1 → ⊥) → (j ≡ 2 → ⊥) → (j ≡ 3 → ⊥) → Summing (records_of b) (i + 1) w p c d
  summing-other n₁ n₂ n₃ = record {
    work = omega (arith, s.work, rw (ne_eqb j 1 n₁) at (kinds-more 1));
    breaks = omega (arith, s.breaks, rw (ne_eqb j 2 n₂) at (kinds-more 2));
    holidays = omega (arith, s.holidays, rw (ne_eqb j 3 n₃) at (kinds-more 3));
    dates = omega (arith, s.dates, others-more n₃);
    work-few = omega (arith, s.work-few);
    breaks-few = omega (arith, s.breaks-few);
    holidays-few = omega (arith, s.holidays-few);
    dates-few = omega (arith, s.dates-few);
  }

pub summing-end : (l : List model.Entry) (i w p c d : ℕ) → Summing l i w p c d → length l ≤ i → record { work = w; breaks = p; holidays = c; dates = d } ≡ tallies_of l
unfolding tallies_of
summing-end l i w p c d s h =
    let ew = tally-end (of_kind 1) l i w h s.work in
    let ep = tally-end (of_kind 2) l i p h s.breaks in
    let ec = tally-end (of_kind 3) l i c h s.holidays in
    let ed = tally-end dates l i d h s.dates in
    rw (ew, ep, ec, ed)

-- ---- the limits

tally-same : (f g : Body → ℕ) → ((x : Body) → f x ≡ g x) → (l : List model.Entry) → tally f l ≡ tally g l
unfolding sum
tally-same f g q [] = refl
tally-same f g q (e ∷ l) = rw (q e.body, tally-same f g q l)

is-work : (x : Body) → works x ≡ of_kind 1 x
unfolding of_kind
is-work default = refl
is-work (work h) = refl
is-work (pause h) = refl
is-work (holidays l) = refl

is-pause : (x : Body) → pauses x ≡ of_kind 2 x
unfolding of_kind
is-pause default = refl
is-pause (work h) = refl
is-pause (pause h) = refl
is-pause (holidays l) = refl

is-holidays : (x : Body) → holiday_records x ≡ of_kind 3 x
unfolding of_kind
is-holidays default = refl
is-holidays (work h) = refl
is-holidays (pause h) = refl
is-holidays (holidays l) = refl

unfoldable pub limits_test : List model.Entry → Bool
limits_test l =
    leb (length l) most_records
    && (leb (tally (of_kind work_kind) l) most_work && (leb (tally (of_kind break_kind) l) most_breaks && (leb (tally (of_kind holidays_kind) l) most_holidays && leb (tally dates l) most_dates)))

pub limits-say : (l : List model.Entry) {t : Bool} → t ≡ limits_test l → t ≡ within_limits l
unfolding limits_test within_limits
limits-say l e = rw (tally-same works (of_kind work_kind) is-work l, tally-same pauses (of_kind break_kind) is-pause l, tally-same holiday_records (of_kind holidays_kind) is-holidays l) e

-- the answers of `limits_ok`, from the bounds that its tests show
module _ (l : List model.Entry) {n : ℕ} (en : n ≡ length l) where
  pub many-records : most_records < n → false ≡ within_limits l
  unfolding limits_test
  many-records h = limits-say l (rw (← en, lt-leb n most_records h))

  module _ {t : Tallies} (hn : n ≤ most_records) (et : t ≡ tallies_of l) where
    limits-left : limits_test l ≡ (leb t.work most_work && (leb t.breaks most_breaks && (leb t.holidays most_holidays && leb t.dates most_dates)))
    unfolding limits_test tallies_of
    limits-left = rw (← en, le-leb n most_records hn, et)

    pub many-work : most_work < t.work → false ≡ within_limits l
    many-work h = limits-say l (rw (limits-left, lt-leb t.work most_work h))

    pub many-breaks : t.work ≤ most_work → most_breaks < t.breaks → false ≡ within_limits l
    many-breaks hw h = limits-say l (rw (limits-left, le-leb t.work most_work hw, lt-leb t.breaks most_breaks h))

    pub many-holidays : t.work ≤ most_work → t.breaks ≤ most_breaks → most_holidays < t.holidays → false ≡ within_limits l
    many-holidays hw hp h = limits-say l (rw (limits-left, le-leb t.work most_work hw, le-leb t.breaks most_breaks hp, lt-leb t.holidays most_holidays h))

    pub dates-within : t.work ≤ most_work → t.breaks ≤ most_breaks → t.holidays ≤ most_holidays → leb t.dates most_dates ≡ within_limits l
    dates-within hw hp hc = limits-say l (rw (limits-left, le-leb t.work most_work hw, le-leb t.breaks most_breaks hp, le-leb t.holidays most_holidays hc))

-- ---- the default zone

default-kind : (x : Body) (k : ℕ) → k ≡ kind_of x → is_default x ≡ eqb k 0
default-kind default k e = rw e
default-kind (work h) k e = rw e
default-kind (pause h) k e = rw e
default-kind (holidays l) k e = rw e

last_more : (d : Option model.Entry) (l : List model.Entry) (i : ℕ) → i < length l →
    last_default d (drop i l) ≡ last_default (if is_default (get_or l i no_entry).body then some (get_or l i no_entry) else d) (drop (i + 1) l)
unfolding last_default
last_more d l i h = rw (add-one i, drop-cons l i no_entry h)

-- a record by its number
pub elem_at : (l : List model.Entry) (i : ℕ) → i < length l → get_elem? l i ≡ some (get_or l i no_entry)
elem_at [] i h = absurd (not-suc-le-zero h)
elem_at (x ∷ l) zero h = refl
elem_at (x ∷ l) (suc i) h = elem_at l i (le_of_suc-le-suc h)

pub elem_past : (l : List model.Entry) (i : ℕ) → length l ≤ i → get_elem? l i ≡ none
elem_past [] i h = refl
elem_past (x ∷ l) zero h = absurd (not-suc-le-zero h)
elem_past (x ∷ l) (suc i) h = elem_past l i (le_of_suc-le-suc h)

-- nothing is found yet
pub last-start : (l : List model.Entry) {n : ℕ} → n ≡ length l → last_default (get_elem? l n) (drop 0 l) ≡ last_default none l
last-start l {n} e = rw (elem_past l n (omega arith))

pub last_end : (l : List model.Entry) (i n : ℕ) {r : Option model.Entry} → length l ≤ i → last_default (get_elem? l n) (drop i l) ≡ r → get_elem? l n ≡ r
unfolding last_default
last_end l i n h inv = rw (drop_of_length-le l h) at inv

module _ (b : List ℕ) (i : ℕ) {k : ℕ} (ek : k ≡ kind_at b i) (h : i < length (records_of b)) (n : ℕ) {r : Option model.Entry} (inv : last_default (get_elem? (records_of b) n) (drop i (records_of b)) ≡ r) where
  default-at : is_default (get_or (records_of b) i no_entry).body ≡ eqb k 0
  unfolding kind_at
  default-at = default-kind (get_or (records_of b) i no_entry).body k ek

  pub last-yes : k ≡ 0 → last_default (get_elem? (records_of b) i) (drop (i + 1) (records_of b)) ≡ r
  last-yes q =
      rw (elem_at (records_of b) i h)
      ((rw (default-at, eq-eqb k 0 q) at (sym (last_more (get_elem? (records_of b) n) (records_of b) i h))) ∙ inv)

  pub last-no : (k ≡ 0 → ⊥) → last_default (get_elem? (records_of b) n) (drop (i + 1) (records_of b)) ≡ r
  last-no q = (rw (default-at, ne_eqb k 0 q) at (sym (last_more (get_elem? (records_of b) n) (records_of b) i h))) ∙ inv
