-- Dates in their order, on or back: the nearer of two, and the nearest of those of a holiday record. Assumes nothing.
use Rattle.std.specs.Prelude.{if◌then◌else◌}
use mathlib.Core.Path.{◌≡◌, refl, sym, ◌∙◌, ap}
use mathlib.Core.Bool.{Bool, true, false, not}
use mathlib.Core.List.{List, ◌∷◌}
use Prim.Native.Nat.{ℕ, zero, suc, ◌+◌, ◌*◌, ◌-◌, ◌≤◌, ◌<◌}
use native.Mathlib.Omega.{arith}
use lib.Dec.{leb, ltb}
use lib.IntN.{ℤ}
use mir.Syntax.{w32}
use mir.Val.{SFits, to_z, of_z}
use mir.Facts.{to_z-of_z}
use borrow.Author.Tests.{le-leb, lt-leb, leb-true, leb-false, ltb-true, ltb-false}
use Rattle.model.specs.Basic.{any}
use Rattle.model.specs.DayNumber.{day_of}
use Rattle.laws_base.specs.Test.{by-test, never}
use Rattle.laws_calendar.specs.Numbers.{IsDayNumber, is_before, is-fits}
use Rattle.std.specs.Prelude.{Option, Some, None}
use Rattle.book_dates.specs.Days.{date_at}
use Rattle.book_dates.proofs.Dates.{day-there, no-day-there}
use Rattle.book.specs.Meaning.{day_at, dates_at}
use Rattle.walk_skip.specs.Repeating.{is_met, met_by, is_on_way, read_on_way, Numbered, Nearer, Nearest}

-- ---- one turn of the loop over dates

dates-more : (b : List ℕ) (p n : ℕ) → 0 < n → dates_at b p n ≡ day_at b p ∷ dates_at b (p + 4) (n - 1)
unfolding dates_at
dates-more b p zero h = absurd (omega arith)
dates-more b p (suc n) h = let e : suc n - 1 ≡ n = omega arith in rw e

any-cons : (t : ℕ → Bool) (x : ℕ) (l : List ℕ) → any t (x ∷ l) ≡ (if t x then true else any t l)
unfolding any
any-cons t x l = refl

-- a or b
abbrev pub either : Bool → Bool → Bool
either a b = if a then true else b

any-more : (t : ℕ → Bool) (b : List ℕ) (p n : ℕ) → 0 < n → any t (dates_at b p n) ≡ either (t (day_at b p)) (any t (dates_at b (p + 4) (n - 1)))
any-more t b p n h = ap (any t) (dates-more b p n h) ∙ any-cons t (day_at b p) (dates_at b (p + 4) (n - 1))

only : (a : Bool) → either a false ≡ a
only true = refl
only false = refl

none_left : (t : ℕ → Bool) (b : List ℕ) (p n : ℕ) → n ≤ 0 → any t (dates_at b p n) ≡ false
unfolding dates_at any
none_left t b p n h = let e : n ≡ 0 = omega arith in rw e

-- ---- dates in their order, on or back

met-back : (back : Bool) (a b : ℕ) → is_met back a b ≡ false → is_met back b a ≡ true
met-back false a b h = let k = leb-false a b h in le-leb b a (omega arith)
met-back true a b h = let k = leb-false b a h in le-leb a b (omega arith)

met-no : (back : Bool) (a b y : ℕ) → is_met back a b ≡ true → is_met back a y ≡ false → is_met back b y ≡ false
met-no false a b y h k = lt-leb b y (omega (arith, leb-true a b h, leb-false a y k))
met-no true a b y h k = lt-leb y b (omega (arith, leb-true b a h, leb-false y a k))

-- a date is on the way to y where it is met from `from` on, and y from it on
on-way : (back : Bool) (from y x : ℕ) → is_on_way back from y x ≡ (if is_met back from x then is_met back x y else false)
on-way false from y x = by-test (leb from x) (λ e. rw e) (λ e. rw e)
on-way true from y x = by-test (leb x from) (λ e. rw e (by-test (leb y x) (λ f. rw f) (λ f. rw f))) (λ e. rw e (by-test (leb y x) (λ f. rw f) (λ f. rw f)))

-- the code's test, of the numbers of two dates
met-on-is : (a b : ℤ) → not (is_before b a) ≡ is_met false (day_of a) (day_of b)
unfolding is_before
met-on-is a b =
    by-test (ltb (day_of b) (day_of a))
    (λ h. rw h (sym (lt-leb (day_of a) (day_of b) (ltb-true (day_of b) (day_of a) h))))
    (λ h. rw h (sym (le-leb (day_of a) (day_of b) (ltb-false (day_of b) (day_of a) h))))

met-back-is : (a b : ℤ) → not (is_before a b) ≡ is_met true (day_of a) (day_of b)
unfolding is_before
met-back-is a b =
    by-test (ltb (day_of a) (day_of b))
    (λ h. rw h (sym (lt-leb (day_of b) (day_of a) (ltb-true (day_of a) (day_of b) h))))
    (λ h. rw h (sym (le-leb (day_of b) (day_of a) (ltb-false (day_of a) (day_of b) h))))

module _ {a b : ℤ} (fa : SFits w32 a) (fb : SFits w32 b) {back t : Bool} where
  pub met-on : back ≡ false → t ≡ is_before (to_z w32 (of_z w32 b)) (to_z w32 (of_z w32 a)) → not t ≡ is_met back (day_of a) (day_of b)
  met-on q e = rw q (ap not (rw (to_z-of_z fa, to_z-of_z fb) at e) ∙ met-on-is a b)

  pub met-behind : back ≡ true → t ≡ is_before (to_z w32 (of_z w32 a)) (to_z w32 (of_z w32 b)) → not t ≡ is_met back (day_of a) (day_of b)
  met-behind q e = rw q (ap not (rw (to_z-of_z fa, to_z-of_z fb) at e) ∙ met-back-is a b)

-- the same where it is asked of numbers of days
pub number-kept : {z : ℤ} → IsDayNumber z → IsDayNumber (to_z w32 (of_z w32 z))
number-kept v = rw (to_z-of_z (is-fits v)) v

pub met-told : (back : Bool) {a b : ℤ} {t u : Bool} → IsDayNumber a → IsDayNumber b → t ≡ is_met back (day_of (to_z w32 (of_z w32 a))) (day_of (to_z w32 (of_z w32 b))) → t ≡ u → is_met back (day_of a) (day_of b) ≡ u
met-told back va vb e q = sym (rw (to_z-of_z (is-fits va), to_z-of_z (is-fits vb)) at e) ∙ q

-- ---- the nearer of two dates

alone : (a : Bool) → a ≡ either a false
alone a = sym (only a)

pub numbered-none : Numbered None
numbered-none = record { number = λ z e. never cc }

numbered-day : {r : Option ℤ} {z : ℤ} → Numbered r → r ≡ Some z → Numbered (Some z)
numbered-day n e = record { number = λ y q. n.number y (e ∙ q) }

module _ (back : Bool) (from : ℕ) {date : Option ℤ} where
  -- there is no second one
  pub near-only : {near : Option ℤ} → Numbered near → date ≡ None → Nearer back from near date near
  near-only {near} n e = record { numbered = n; met = λ y. rw e (alone (met_by back near y)) }

  module _ {d : ℤ} (e : date ≡ Some d) where
    on-way-to : (y : ℕ) → read_on_way back from y date ≡ (if is_met back from (day_of d) then is_met back (day_of d) y else false)
    on-way-to y = rw e (on-way back from y (day_of d))

    -- it is not met
    pub near-outside : {near : Option ℤ} → Numbered near → is_met back from (day_of d) ≡ false → Nearer back from near date near
    near-outside {near} n f = record { numbered = n; met = λ y. rw (on-way-to y, f) (alone (met_by back near y)) }

    module _ (f : is_met back from (day_of d) ≡ true) where
      way-is : (y : ℕ) → read_on_way back from y date ≡ is_met back (day_of d) y
      way-is y = on-way-to y ∙ rw f

      -- there is no first one
      pub near_first : {near : Option ℤ} → Numbered date → near ≡ None → Nearer back from near date (Some d)
      near_first n g = record { numbered = numbered-day n e; met = λ y. rw g (sym (way-is y)) }

      module _ {near : Option ℤ} {x : ℤ} (g : near ≡ Some x) where
        pub near-further : Numbered near → is_met back (day_of x) (day_of d) ≡ true → Nearer back from near date (Some x)
        near-further n h = record {
          numbered = numbered-day n g;
          met = λ y. rw (way-is y, g) (by-test (is_met back (day_of x) y) (λ u. rw u) (λ u. rw (u, met-no back (day_of x) (day_of d) y h u)));
        }

        pub near-nearer : Numbered date → is_met back (day_of x) (day_of d) ≡ false → Nearer back from near date (Some d)
        near-nearer n h = record {
          numbered = numbered-day n e;
          met = λ y. rw (way-is y, g) (by-test (is_met back (day_of d) y)
              (λ q. rw q (by-test (is_met back (day_of x) y) (λ u. rw u) (λ u. rw u)))
              (λ q. rw (q, met-no back (day_of d) (day_of x) y (met-back back (day_of x) (day_of d) h) q)));
        }

-- ---- the nearest of several

-- a date as it was read lies on the way where its day does, and one that is none does not
none-on-way : (back : Bool) (from y : ℕ) → 0 < from → 0 < y → is_on_way back from y 0 ≡ false
none-on-way false from y h k = rw (lt-leb from 0 h)
none-on-way true from y h k = rw (lt-leb y 0 k)

read-way : (back : Bool) (from y : ℕ) (b : List ℕ) (p : ℕ) {date : Option ℤ} → 0 < from → 0 < y → date ≡ date_at b p → is_on_way back from y (day_at b p) ≡ read_on_way back from y date
read-way back from y b p {date} h k e = go date (sym e)
  where
    go : (r : Option ℤ) → date_at b p ≡ r → is_on_way back from y (day_at b p) ≡ read_on_way back from y r
    go (Some z) q = ap (is_on_way back from y) (day-there b p z q).day
    go None q = ap (is_on_way back from y) (no-day-there b p q) ∙ none-on-way back from y h k

-- dates of a book have numbers
pub date-numbered : (b : List ℕ) (p : ℕ) {date : Option ℤ} → date ≡ date_at b p → Numbered date
date-numbered b p e = record { number = λ z q. (day-there b p z (sym e ∙ q)).number }

-- the nearest date is `near` or among the n dates at p
pub record Nears (b : List ℕ) (back : Bool) (from : ℕ) (near : Option ℤ) (p n : ℕ) (all : List ℕ) : Type 0 where
  pub numbered : Numbered near
  pub same : (y : ℕ) → 0 < y → either (met_by back near y) (any (is_on_way back from y) (dates_at b p n)) ≡ any (is_on_way back from y) all

pub nears-start : (b : List ℕ) (back : Bool) (from p n : ℕ) → Nears b back from None p n (dates_at b p n)
nears-start b back from p n = record { numbered = numbered-none; same = λ y h. refl }

either-more : (a b c : Bool) → either (either a b) c ≡ either a (either b c)
either-more true b c = refl
either-more false b c = refl

module _ {b : List ℕ} {back : Bool} {from : ℕ} {near : Option ℤ} {p n : ℕ} {all : List ℕ} (m : Nears b back from near p n all) where
  pub nears-turn : 0 < n → 0 < from → {date r : Option ℤ} → date ≡ date_at b p → Nearer back from near date r → Nears b back from r (p + 4) (n - 1) all
  nears-turn h k {date} {r} e w = record {
    numbered = w.numbered;
    same = λ y q.
        let rest : Bool = any (is_on_way back from y) (dates_at b (p + 4) (n - 1)) in
        ap (λ (t : Bool). either t rest) (w.met y)
        ∙ either-more (met_by back near y) (read_on_way back from y date) rest
        ∙ ap (λ (t : Bool). either (met_by back near y) (either t rest)) (sym (read-way back from y b p k q e))
        ∙ ap (either (met_by back near y)) (sym (any-more (is_on_way back from y) b p n h))
        ∙ m.same y q;
  }

  ends : n ≤ 0 → Nearest back from all near
  ends h y k = sym (m.same y k) ∙ ap (either (met_by back near y)) (none_left (is_on_way back from y) b p n h) ∙ only (met_by back near y)

  pub nears-end : n ≤ 0 → {x : ℕ} → from ≡ x → Numbered near × Nearest back x all near
  nears-end h e = (m.numbered, rw e at (ends h))

-- ---- by an index

pub nears-first : (b : List ℕ) (back : Bool) (from p n : ℕ) → Nears b back from None (p + 0 * 4) (n - 0) (dates_at b p n)
nears-first b back from p n = let e : p + 0 * 4 ≡ p = omega arith in let f : n - 0 ≡ n = omega arith in rw (e, f) (nears-start b back from p n)

pub nears-next : (b : List ℕ) (back : Bool) (from p n i : ℕ) (all : List ℕ) {near : Option ℤ} → Nears b back from near (p + i * 4) (n - i) all → i < n → 0 < from → {date r : Option ℤ} → date ≡ date_at b (p + i * 4) → Nearer back from near date r
    → Nears b back from r (p + (i + 1) * 4) (n - (i + 1)) all
nears-next b back from p n i all m h k {date} {r} e w =
    let f : p + i * 4 + 4 ≡ p + (i + 1) * 4 = omega arith in
    let g : n - i - 1 ≡ n - (i + 1) = omega arith in
    rw (f, g) at (nears-turn m (omega arith) k e w)
