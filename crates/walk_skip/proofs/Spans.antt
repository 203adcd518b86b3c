-- Dates of a holiday record: how far a span may be widened, on or back, before the nearest one is among its dates. Assumes nothing.
use mathlib.Core.Path.{◌≡◌, refl, sym, ◌∙◌, ap}
use mathlib.Core.Bool.{Bool, true, false, not}
use mathlib.Core.List.{List, [], ◌∷◌}
use Prim.Native.Nat.{ℕ, zero, suc, ◌+◌, ◌*◌, ◌-◌, ◌/◌, ◌≤◌, ◌<◌}
use native.Mathlib.Omega.{arith}
use lib.IntN.{ℤ}
use mir.Syntax.{w32}
use mir.Val.{to_z, of_z}
use mir.Facts.{to_z-of_z}
use borrow.Author.Tests.{le-leb, lt-leb}
use Rattle.model.specs.Basic.{is_in, any, among, distinct}
use Rattle.model.specs.DayNumber.{signed_day, day_of}
use Rattle.model.specs.Instant.{second, first_instant, first_second, day_seconds}
use Rattle.model.specs.Tzif.{Zone}
use Rattle.model.specs.Working.{Holidays, first_date, last_date}
use Rattle.laws_base.specs.Test.{by-test, clash}
use Rattle.laws_base.specs.Members.{any-in}
use Rattle.laws_calendar.specs.Numbers.{IsDayNumber, numbered, is-fits, bits-day, bits_is}
use Rattle.laws_zone.specs.Changes.{any_none}
use Rattle.laws_zone.specs.Sound.{Sound}
use Rattle.laws_demand3.specs.Local.{offset-low, offset-high, day-is, first-from, first-upto, last-from, last-upto, first-near, last-near}
use Rattle.std.specs.Prelude.{Option, Some, None}
use Rattle.book.specs.Meaning.{dates_at}
use Rattle.laws_zone.specs.Zones.{fits-sound}
use Rattle.rule.specs.Rules.{file_at, holidays_is, HolidaysFit}
use Rattle.rule.specs.declared.HolidayDates.{HolidayDates}
use Rattle.instant.specs.Instant.{InRange, nanos}
use Rattle.instant.specs.declared.Instant.{Instant}
use Rattle.zone.specs.Zones.{zone_is}
use Rattle.zone_steady.specs.Steady.{SteadyRoom, low, high}
use Rattle.walk_skip.specs.Repeating.{none_within, met_by, Numbered, Nearest, DateAhead, DateBehind, most_offset}

-- ---- how far a date is from a span: among its dates, next to them, or beyond

pub ahead-at : {d last : ℕ} (hi : ℕ) → d ≤ last → DateAhead d last hi 0
ahead-at hi h = record { none = λ _. h; some = λ k. absurd (omega arith); more = λ e _ k. absurd (omega arith) }

pub ahead-near : {d last : ℕ} (hi : ℕ) → last < d → DateAhead d last hi 1
ahead-near hi h = record { none = λ k. absurd (omega arith); some = λ _. h; more = λ e j k. absurd (omega arith) }

pub ahead-far : {d last hi r : ℕ} → last < d → 0 < r → hi + most_offset + day_seconds + r ≤ d * day_seconds → DateAhead d last hi r
ahead-far h i k = record { none = λ e. absurd (omega arith); some = λ _. h; more = λ x j e. omega arith }

pub behind-at : {d first : ℕ} (lo : ℕ) → first ≤ d → DateBehind d first lo 0
behind-at lo h = record { none = λ _. h; some = λ k. absurd (omega arith); more = λ e _ k. absurd (omega arith) }

pub behind-near : {d first : ℕ} (lo : ℕ) → d < first → DateBehind d first lo 1
behind-near lo h = record { none = λ k. absurd (omega arith); some = λ _. h; more = λ e j k. absurd (omega arith) }

pub behind-far : {d first lo r : ℕ} → d < first → 0 < r → (d + 3) * day_seconds + most_offset + r ≤ lo + 1 → DateBehind d first lo r
behind-far h i k = record { none = λ e. absurd (omega arith); some = λ _. h; more = λ x j e. omega arith }

-- ---- a record

-- a test passes on one of the distinct numbers where it passes on one as written
any-distinct : (t : ℕ → Bool) (l : List ℕ) → any t (distinct l) ≡ any t l
unfolding distinct any
any-distinct t [] = refl
any-distinct t (x ∷ l) =
    by-test (among l x)
    (λ e. rw e (any-distinct t l ∙ by-test (t x)
    (λ q. rw q (by-test (any t l) (λ u. u) (λ u. clash (t x) q (any_none t l x u (any-in x l e)))))
    (λ q. rw q)))
    (λ e. rw (e, any-distinct t l))

-- the last date of a span of the range is a date
last_some : (z : Zone) → Sound z → (t : ℕ) → first_instant ≤ t → 0 < last_date z t
last_some z s t h = let x = last-from z s t in let y = day-is z s t in let w = offset-low z s t in omega arith

module _ (h : Holidays) (s : Sound h.zone) (l : List ℕ) (ed : h.dates ≡ distinct l) (a b : ℕ) (ha : first_instant ≤ a) (hb : first_instant ≤ b) {first last : ℕ} (ef : first ≡ first_date h.zone a) (el : last ≡ last_date h.zone b) where
  -- the dates of a widened span
  seen : (back : Bool) (e : ℕ) → none_within back a b e h ≡ not (any (is_in (first_date h.zone (low back a (e * second))) (last_date h.zone (high back b (e * second)))) l)
  unfolding none_within
  seen back e = rw ed (ap not (any-distinct (is_in (first_date h.zone (low back a (e * second))) (last_date h.zone (high back b (e * second)))) l))

  module _ (r : Option ℤ) (near : Nearest false first l r) where
    sees : (e : ℕ) → none_within false a b e h ≡ not (met_by false r (last_date h.zone (b + e * second)))
    sees e = seen false e ∙ ap not (ap (λ f. any (is_in f (last_date h.zone (b + e * second))) l) (sym ef) ∙ near (last_date h.zone (b + e * second)) (last_some h.zone s (b + e * second) (omega arith)))

  module _ (r : Option ℤ) (near : Nearest true last l r) where
    sees_back : (e : ℕ) → 0 < first_date h.zone (a - e * second) → none_within true a b e h ≡ not (met_by true r (first_date h.zone (a - e * second)))
    sees_back e p = seen true e ∙ ap not (ap (λ t. any (is_in (first_date h.zone (a - e * second)) t) l) (sym el) ∙ near (first_date h.zone (a - e * second)) p)

  -- there is no date ahead, or none behind
  pub none_ahead : Nearest false first l None → {r : ℕ} → 0 < r → SteadyRoom (λ e. none_within false a b e h) r
  none_ahead near k = record { none = λ q. absurd (omega arith); each = λ e q. sees None near e }

  pub none-behind : Nearest true last l None → (lo : ℕ) → lo ≡ a / second → SteadyRoom (λ e. none_within true a b e h) (lo - first_second + 1)
  none-behind near lo eh = record { none = λ q. absurd (omega arith); each = λ e q. sees_back None near e (omega (arith, first-from h.zone s (a - e * second) (omega arith))) }

  module _ (z : ℤ) (near : Nearest false first l (Some z)) (hi : ℕ) (eh : hi ≡ b / second) {r : ℕ} (k : DateAhead (day_of z) last hi r) where
    last-beyond : (e : ℕ) → 0 < e → e < r → last_date h.zone (b + e * second) < day_of z
    last-beyond e p q =
        let i = k.more e p q in let x = last-near h.zone s (b + e * second) in let y = day-is h.zone s (b + e * second) in let w = offset-high h.zone s (b + e * second) in
        omega arith

    at-start : last_date h.zone (b + 0 * second) ≡ last
    at-start = let q : b + 0 * second ≡ b = omega arith in rw q (sym el)

    pub ahead-room : SteadyRoom (λ e. none_within false a b e h) r
    ahead-room = record {
      none = λ q. sees (Some z) near 0 ∙ ap not (le-leb (day_of z) (last_date h.zone (b + 0 * second)) (omega (arith, at-start, k.none q)));
      each = λ e q. sees (Some z) near e ∙ ap not (lt-leb (day_of z) (last_date h.zone (b + e * second)) (under e q));
    }
      where
        under : (e : ℕ) → e < r → last_date h.zone (b + e * second) < day_of z
        under zero q = omega (arith, at-start, k.some (omega arith))
        under (suc e) q = last-beyond (suc e) (omega arith) q

  module _ (z : ℤ) (near : Nearest true last l (Some z)) (lo : ℕ) (eh : lo ≡ a / second) {r : ℕ} (k : DateBehind (day_of z) first lo r) where
    first-beyond : (e : ℕ) → 0 < e → e < r → day_of z < first_date h.zone (a - e * second)
    first-beyond e p q =
        let i = k.more e p q in let x = first-near h.zone s (a - e * second) in let y = day-is h.zone s (a - e * second) in let w = offset-low h.zone s (a - e * second) in
        omega arith

    at_first : first_date h.zone (a - 0 * second) ≡ first
    at_first = let q : a - 0 * second ≡ a = omega arith in rw q (sym ef)

    first_some : 0 < first
    first_some = let u = first-from h.zone s a ha in omega arith

    pub behind-room : SteadyRoom (λ e. none_within true a b e h) r
    behind-room = record {
      none = λ q. sees_back (Some z) near 0 (omega (arith, at_first, first_some)) ∙ ap not (le-leb (first_date h.zone (a - 0 * second)) (day_of z) (omega (arith, at_first, k.none q)));
      each = λ e q. sees_back (Some z) near e (omega (arith, over e q)) ∙ ap not (lt-leb (first_date h.zone (a - e * second)) (day_of z) (over e q));
    }
      where
        over : (e : ℕ) → e < r → day_of z < first_date h.zone (a - e * second)
        over zero q = omega (arith, at_first, k.some (omega arith))
        over (suc e) q = first-beyond (suc e) (omega arith) q

-- ---- the same of the code's values

zone-sound : (k p : List ℕ) (c : HolidayDates) → HolidaysFit k p c → Sound (zone_is (file_at p c.at c.len) c.zone)
zone-sound k p c fit = fits-sound (zone_is (file_at p c.at c.len) c.zone) fit.opened.fits

-- the code has the first date x and the last date y from a to b, from the zone's file f
pub record Spanned (k p : List ℕ) (c : HolidayDates) (a b : Instant) (f : List ℕ) (x y : ℤ) : Type 0 where
  pub fit : HolidaysFit k p c
  pub from : InRange a
  pub to : InRange b
  pub file : f ≡ file_at p c.at c.len
  pub first : x ≡ signed_day (first_date (zone_is f c.zone) (nanos a))
  pub last : y ≡ signed_day (last_date (zone_is f c.zone) (nanos b))

module _ {k p : List ℕ} {c : HolidayDates} {a b : Instant} {f : List ℕ} {x y : ℤ} (s : Spanned k p c a b f x y) where
  sound : Sound (zone_is f c.zone)
  sound = rw s.file (zone-sound k p c s.fit)

  first-in : (0 < first_date (zone_is f c.zone) (nanos a)) × (first_date (zone_is f c.zone) (nanos a) < numbered)
  first-in =
      let z : Zone = zone_is f c.zone in
      let u = first-from z sound (nanos a) (omega (arith, s.from.low)) in
      let v = first-upto z sound (nanos a) in
      let w = day-is z sound (nanos a) in
      let o = offset-high z sound (nanos a) in
      (omega arith, omega (arith, s.from.high, s.from.ns))

  last-in : (0 < last_date (zone_is f c.zone) (nanos b)) × (last_date (zone_is f c.zone) (nanos b) < numbered)
  last-in =
      let z : Zone = zone_is f c.zone in
      (last_some z sound (nanos b) (omega (arith, s.to.low)), omega (arith, last-upto z sound (nanos b) (omega (arith, s.to.high, s.to.ns))))

  -- the two dates as they are handed on
  abbrev first_given : ℤ
  first_given = to_z w32 (of_z w32 x)

  abbrev last_given : ℤ
  last_given = to_z w32 (of_z w32 y)

  pub first-given : IsDayNumber first_given × (0 < day_of first_given)
  first-given = (bits_is s.first first-in.1, omega (arith, first-in.0, bits-day s.first first-in.1))

  pub last-given : IsDayNumber last_given × (0 < day_of last_given)
  last-given = (bits_is s.last last-in.1, omega (arith, last-in.0, bits-day s.last last-in.1))

  first-same : day_of first_given ≡ first_date (zone_is (file_at p c.at c.len) c.zone) (nanos a)
  first-same = rw s.file at (bits-day s.first first-in.1)

  last-same : day_of last_given ≡ last_date (zone_is (file_at p c.at c.len) c.zone) (nanos b)
  last-same = rw s.file at (bits-day s.last last-in.1)

  abbrev dates : List ℕ
  dates = dates_at k c.dates c.count

  abbrev Room : Bool → ℕ → Type 0
  Room back r = SteadyRoom (λ e. none_within back (nanos a) (nanos b) e (holidays_is k p c)) r

  module _ {back : Bool} {n : Option ℤ} where
    pub closed-ahead : {d : ℤ} {r : ℕ} → back ≡ false → Numbered n → Nearest false (day_of first_given) dates n → n ≡ Some d → DateAhead (day_of (to_z w32 (of_z w32 d))) (day_of last_given) b.sec r → Room back r
    closed-ahead {d} q v near g m =
        rw q (ahead-room (holidays_is k p c) (zone-sound k p c s.fit) dates refl (nanos a) (nanos b) (omega (arith, s.from.low)) (omega (arith, s.to.low)) first-same last-same
        d (rw g at near) b.sec (omega (arith, s.to.ns)) (rw (to_z-of_z (is-fits (v.number d g))) at m))

    pub closed-behind : {d : ℤ} {r : ℕ} → back ≡ true → Numbered n → Nearest true (day_of last_given) dates n → n ≡ Some d → DateBehind (day_of (to_z w32 (of_z w32 d))) (day_of first_given) a.sec r → Room back r
    closed-behind {d} q v near g m =
        rw q (behind-room (holidays_is k p c) (zone-sound k p c s.fit) dates refl (nanos a) (nanos b) (omega (arith, s.from.low)) (omega (arith, s.to.low)) first-same last-same
        d (rw g at near) a.sec (omega (arith, s.from.ns)) (rw (to_z-of_z (is-fits (v.number d g))) at m))

    pub open-ahead : {r : ℕ} → back ≡ false → Nearest false (day_of first_given) dates n → n ≡ None → 0 < r → Room back r
    open-ahead q near g m =
        rw q (none_ahead (holidays_is k p c) (zone-sound k p c s.fit) dates refl (nanos a) (nanos b) (omega (arith, s.from.low)) (omega (arith, s.to.low)) first-same last-same (rw g at near) m)

    pub open-behind : back ≡ true → Nearest true (day_of last_given) dates n → n ≡ None → Room back (a.sec - first_second + 1)
    open-behind q near g =
        rw q (none-behind (holidays_is k p c) (zone-sound k p c s.fit) dates refl (nanos a) (nanos b) (omega (arith, s.from.low)) (omega (arith, s.to.low)) first-same last-same (rw g at near) a.sec (omega (arith, s.from.ns)))
