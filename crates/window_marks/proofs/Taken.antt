-- What a rule takes of a date, whole, as the code puts it together; and the dates of a holiday record. Assumes nothing.
use Rattle.std.specs.Prelude.{Option, Some, if◌then◌else◌}
use Rattle.mark.specs.Marks.{mark_number}
use mathlib.Core.Path.{◌≡◌, refl, sym, ◌∙◌, ap}
use mathlib.Core.Bool.{Bool, true, false}
use mathlib.Core.List.{List, [], ◌∷◌, map}
use Prim.Native.Nat.{ℕ, zero, suc, ◌+◌, ◌*◌, ◌-◌, ◌/◌, ◌≤◌, ◌<◌}
use native.Mathlib.Omega.{arith}
use lib.Dec.{eqb}
use lib.IntN.{ℤ}
use borrow.Author.Tests.{lt-ltb, le-ltb, eq-eqb, ne_eqb}
use Rattle.model.specs.Basic.{any, among}
use Rattle.model.specs.DayNumber.{day_of}
use Rattle.model.specs.Marks.{MarkedBlock, marked, edge, resolve_mark, mark_by_end, whole_on}
use Rattle.block_marked.specs.Marked.{marked_is}
use Rattle.model.specs.Working.{Rule, start_of, end_of, holiday_rule}
use Rattle.instant.specs.Instant.{nanos}
use Rattle.instant.specs.declared.Instant.{Instant}
use Rattle.block_marked.specs.declared.MarkedBlock.{MarkedBlock as Item}
use Rattle.civil.specs.Dates.{TimeFits}
use Rattle.civil.specs.declared.Time.{Time}
use Rattle.std.specs.Prelude.{Option, Some, None}
use Rattle.zone.specs.Zones.{zone_is, ZoneOk, zone_offset, ZoneBounds}
use Rattle.zone.specs.declared.Zone.{Zone}
use Rattle.zone_local.specs.Dates.{during, rule_of, TouchAsked, Apart, till_time}
use Rattle.book_dates.specs.Days.{date_at, day_at, dates_at}
use Rattle.book_dates.proofs.Dates.{day-there, no-day-there}
use Rattle.rule.specs.Rules.{rule_is, holidays_is, RuleFits, HolidaysFit}
use Rattle.rule.specs.declared.Rule.{Rule as Rule'}
use Rattle.rule.specs.declared.HolidayDates.{HolidayDates}
use Rattle.window_dates.specs.Windows.{IsLocalDates}
use Rattle.window_dates.specs.declared.LocalDates.{LocalDates}
use Rattle.window_dates.proofs.Fill.{among-distinct, maps}
use Rattle.window_marks.specs.Whole.{held_marked, on_is, DatesFit, rule_by, any_rule_is, of_shift, of_holidays, AnyRuleFits, RuleSides, RulesSides}
use Rattle.window_marks.specs.declared.Dates.{Dates}
use Rattle.window_marks.specs.declared.Dates.TheVariants.{Weekdays, Written}
use Rattle.model.specs.Calendar.{contains, weekday}
use lib.ListN.{length, get_or}
use lib.Seq.{take_all}
use Rattle.laws_base.specs.Every.{Every, every_front}
use Rattle.window_marks.specs.declared.AnyRule.{AnyRule}
use Rattle.window_marks.specs.declared.Border.{Border}
use Rattle.block_marked.specs.declared.Sides.{Sides}
use Rattle.laws_demand3.specs.Windows.{RuleOk}
use Rattle.laws_marks.specs.Around.{around_of}
use Rattle.laws_marks.specs.Reach.{behind-shows-none, before-shows-none}
use Rattle.laws_skip.specs.Steady.{till}
use Rattle.laws_zone.specs.Zones.{fits-sound}
use Rattle.zone_tzif.specs.declared.OffsetBounds.{OffsetBounds}
use Rattle.model.specs.Instant.{second, day_seconds}
use Rattle.model.specs.Offset.{offset_bias}
use mathlib.Core.Logic.{inl, inr}

-- ---- a date

-- from both ends and their marks
pub held_whole : (r : Rule) (d : ℕ) (b : Item) → nanos b.start ≡ start_of r d → mark_number b.start_mark ≡ resolve_mark r.zone d r.from → nanos b.end ≡ end_of r d → mark_number b.end_mark ≡ mark_by_end r d
    → nanos b.start < nanos b.end → held_marked (Some b) ≡ whole_on r d
unfolding whole_on
held_whole r d b p q s t h =
    ap (λ (x : MarkedBlock). x ∷ []) (parts (p) (q) (s) (t)) ∙ sym (rw (lt-ltb (start_of r d) (end_of r d) (omega (arith, p, s))) refl)
  where
    parts : {a m c n : ℕ} → nanos b.start ≡ a → mark_number b.start_mark ≡ m → nanos b.end ≡ c → mark_number b.end_mark ≡ n → marked_is b ≡ marked (edge a m) (edge c n)
    parts p q s t = λ i. marked (edge (p i) (q i)) (edge (s i) (t i))

-- what ends where it starts or before holds nothing
pub held_none : (r : Rule) (d s e : ℕ) → s ≡ start_of r d → e ≡ end_of r d → e ≤ s → [] ≡ whole_on r d
unfolding whole_on
held_none r d s e p q h = rw (le-ltb (start_of r d) (end_of r d) (omega (arith, p, q)))

-- whichever dates a rule is on, it takes the same of one
whole-any : (r : Rule) (d : ℕ) → whole_on (during r.zone r.from r.to) d ≡ whole_on r d
unfolding whole_on start_of end_of mark_by_end
whole-any r d = refl

pub held-taken : (k f : List ℕ) (z : Zone) (from to : Time) (dates : Dates) (y : Option Item) {d e : ℕ} → d ≡ e → held_marked y ≡ whole_on (rule_of f z from to) d → held_marked y ≡ whole_on (rule_by k f z from to dates) e
unfolding rule_by
held-taken k f z from to dates y {d} {e} q h = h ∙ ap (whole_on (rule_of f z from to)) q ∙ whole-any (rule_by k f z from to dates) e

-- ---- records

-- whether a date is one of a rule's
pub on-weekday : (k : List ℕ) (d : ℕ) {dates : Dates} {set : ℕ} {t : Bool} → dates ≡ Weekdays set → t ≡ contains set (weekday d) → t ≡ on_is k dates d
unfolding on_is
on-weekday k d e q = rw e q

pub on-written : (k : List ℕ) (d : ℕ) {dates : Dates} {p n : ℕ} {t : Bool} → dates ≡ Written p n → t ≡ among (dates_at k p n) d → t ≡ on_is k dates d
unfolding on_is
on-written k d {dates} {p} {n} e q = rw e (q ∙ sym (among-distinct (dates_at k p n) d))

pub fits-written : (k : List ℕ) (dates : Dates) {p n : ℕ} → dates ≡ Written p n → DatesFit k dates → p + 4 * n ≤ length k
fits-written k dates e h = rw e at h

-- of its rule
module _ (k f : List ℕ) (z : Zone) (from to : Time) (dates : Dates) where
  pub rule-on : {d e : ℕ} {a : Bool} → d ≡ e → on_is k dates d ≡ a → (rule_by k f z from to dates).on e ≡ a
  unfolding rule_by
  rule-on q h = rw q at h

  pub rule-dates : (lo hi : Instant) (days : LocalDates) → IsLocalDates (zone_is f z) lo hi days → IsLocalDates (rule_by k f z from to dates).zone lo hi days
  unfolding rule_by
  rule-dates lo hi days q = q

pub shift_fits : (b p : List ℕ) (r : Rule') {x : AnyRule} → x ≡ of_shift r → RuleFits p r → AnyRuleFits b p x
shift_fits b p r e k = rw e (record { opened = k.opened; dates = tt; from = k.from; to = k.to })

pub holiday-fits : (b p : List ℕ) (c : HolidayDates) {x : AnyRule} → x ≡ of_holidays c → HolidaysFit b p c → AnyRuleFits b p x
holiday-fits b p c e k =
    rw e (record { opened = k.opened; dates = k.inside; from = record { seconds = omega arith; nanos = omega arith }; to = record { seconds = omega arith; nanos = omega arith } })

-- the rule of a holiday record
unfoldable pub closed_rule : List ℕ → List ℕ → HolidayDates → Rule
closed_rule k p c = holiday_rule (holidays_is k p c)

pub shift-sides : (b p : List ℕ) (r : Rule') {x : AnyRule} (s e : Border) (y : Sides) → x ≡ of_shift r → RuleSides (any_rule_is b p x) s e y → RuleSides (rule_is p r) s e y
unfolding rule_by on_is
shift-sides b p r s e y q h = rw q at h

pub holiday-sides : (b p : List ℕ) (c : HolidayDates) {x : AnyRule} (s e : Border) (y : Sides) → x ≡ of_holidays c → RuleSides (any_rule_is b p x) s e y → RuleSides (closed_rule b p c) s e y
unfolding closed_rule rule_by on_is
holiday-sides b p c s e y q h = rw q at h

-- the end's second, counted from the start's date
tills : (r : Rule) (d : ℕ) {v : ℕ} → d * day_seconds + till_time r.from r.to / second + offset_bias < v → d * day_seconds + till r / second + offset_bias < v
unfolding till_time till
tills r d h = h

-- a date that lies apart from the instants from a to b shows nothing around them
module _ (k f : List ℕ) (z : Zone) (from to : Time) (dates : Dates) (bounds : OffsetBounds) (d : ℕ) (a b : Instant) where
  rule-ok : ZoneOk f z → TimeFits from → TimeFits to → RuleOk (rule_by k f z from to dates)
  unfolding rule_by
  rule-ok o p q =
      let a = p.seconds in let c = p.nanos in let d = q.seconds in let e = q.nanos in
      record { sound = fits-sound (zone_is f z) o.fits; from-day = omega arith; to-day = omega arith }

  pub apart_none : ZoneOk f z → ZoneBounds (zone_offset f z) bounds → TouchAsked bounds from to d a b → Apart bounds from to d a b
      → (u : ℕ) → nanos a ≤ u → u ≤ nanos b → around_of u (whole_on (rule_by k f z from to dates) d) ≡ around_of u []
  unfolding rule_by
  apart_none o h t (inl n) u s e =
      let x = t.from_in.low in let y = t.upto-in.high in let v = t.upto-in.ns in
      behind-shows-none (rule_by k f z from to dates) (rule-ok o t.from-fits t.to-fits) d t.is-day.low t.is-day.high u (omega arith) (omega arith) bounds.greatest h.greatest (omega arith)
  apart_none o h t (inr n) u s e =
      let x = t.from_in.low in let y = t.upto-in.high in let v = t.upto-in.ns in let w = t.from_in.ns in
      before-shows-none (rule_by k f z from to dates) (rule-ok o t.from-fits t.to-fits) d t.is-day.low t.is-day.high u (omega arith) (omega arith) bounds.least h.least
      (tills (rule_by k f z from to dates) d (omega arith))

pub apart-near : (k f : List ℕ) (z : Zone) (from to : Time) (dates : Dates) (a b : ℕ) {d : ℕ} (e : ℕ) → d ≡ e → ((u : ℕ) → a ≤ u → u ≤ b → around_of u (whole_on (rule_by k f z from to dates) d) ≡ around_of u [])
    → (u : ℕ) → a ≤ u → u ≤ b → around_of u (whole_on (rule_by k f z from to dates) e) ≡ around_of u []
apart-near k f z from to dates a b e q h = rw q at h

-- the rules of several records
pub closed-sides : (k p : List ℕ) (l : List HolidayDates) (s e : Border) (y : Sides) → RulesSides (map (closed_rule k p) l) s e y → RulesSides (map holiday_rule (map (holidays_is k p) l)) s e y
unfolding closed_rule
closed-sides k p l s e y h = rw (maps holiday_rule (holidays_is k p) l) at h

-- ---- whether a day is among dates

module _ (b : List ℕ) (p d : ℕ) {r : Option ℤ} (e : r ≡ date_at b p) where
  pub day-none : 0 < d → r ≡ None → false ≡ eqb d (day_at b p)
  day-none h q = sym (ne_eqb d (day_at b p) (λ z. omega (arith, z, no-day-there b p (sym e ∙ q))))

  module _ (z : ℤ) (q : r ≡ Some z) where
    pub day-other : (d ≡ day_of z → ⊥) → false ≡ eqb d (day_at b p)
    day-other h = sym (ne_eqb d (day_at b p) (λ x. h (x ∙ (day-there b p z (sym e ∙ q)).day)))

    pub day-same : d ≡ day_of z → true ≡ eqb d (day_at b p)
    day-same h = sym (eq-eqb d (day_at b p) (h ∙ sym (day-there b p z (sym e ∙ q)).day))

dates-more : (b : List ℕ) (p d n : ℕ) → 0 < n → among (dates_at b p n) d ≡ (if eqb d (day_at b p) then true else among (dates_at b (p + 4) (n - 1)) d)
unfolding dates_at any
dates-more b p d zero h = absurd (omega arith)
dates-more b p d (suc n) h = let e : suc n - 1 ≡ n = omega arith in rw e

module _ (b : List ℕ) (p d : ℕ) {n : ℕ} {t r : Bool} (h : 0 < n) (inv : among (dates_at b p n) d ≡ r) (e : t ≡ eqb d (day_at b p)) where
  pub date-is : t ≡ true → true ≡ r
  date-is q = cc (dates-more b p d n h)

  pub date-other : t ≡ false → among (dates_at b (p + 4) (n - 1)) d ≡ r
  date-other q = cc (dates-more b p d n h)

-- the dates from the i-th on are to be asked
pub dates-next : (b : List ℕ) (p d i n : ℕ) (r : Bool) → among (dates_at b (p + 4 * i + 4) (n - i - 1)) d ≡ r → among (dates_at b (p + 4 * (i + 1)) (n - (i + 1))) d ≡ r
dates-next b p d i n r e =
    let x : p + 4 * (i + 1) ≡ p + 4 * i + 4 = omega arith in
    let y : n - (i + 1) ≡ n - i - 1 = omega arith in
    rw (x, y) e

pub dates-end : (b : List ℕ) (p d : ℕ) {n : ℕ} {r : Bool} → n ≤ 0 → among (dates_at b p n) d ≡ r → false ≡ r
unfolding dates_at any
dates-end b p d {n} h inv = let e : n ≡ 0 = omega arith in (rw e at inv)

-- what holds of each of a list
pub every-at : {A : Type 0} (P : A → Type 0) (l : List A) (i : ℕ) (d : A) → i < length l → Every P l → P (get_or l i d)
every-at P l i d h a = every_front P (length l) l i d h (omega arith) (rw (take_all (length l) l (omega arith)) a)
