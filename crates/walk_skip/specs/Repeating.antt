-- The skip test at a border and at those beyond it: how far the eleven days on each side may be widened, in seconds, on from the border or back
-- from it.
use Rattle.std.specs.Prelude.{◌≡◌, Bool, true, false, ◌&&◌, List, map, ℕ, ◌+◌, ◌*◌, ◌-◌, ◌≤◌, ◌<◌, leb, ℤ, if◌then◌else◌}
use Rattle.model.specs.Basic.{is_in, any, all}
use Rattle.model.specs.DayNumber.{day_of}
use Rattle.model.specs.Instant.{second, day, week, first_instant, last_instant, first_second, last_second, day_seconds}
use Rattle.model.specs.Working.{Rule, Holidays, Schedule}
use Rattle.model.specs.Skip.{rule_steady, none_near, repeats}
use Rattle.laws_calendar.specs.Numbers.{IsDayNumber}
use Rattle.laws_skip.specs.Runs.{repeats_to}
use Rattle.std.specs.Prelude.{Option, Some, None}
use Rattle.instant.specs.Instant.{nanos, InRange}
use Rattle.instant.specs.declared.Instant.{Instant}
use Rattle.rule.specs.declared.Rule.{Rule as Item}
use Rattle.rule.specs.declared.HolidayDates.{HolidayDates}
use Rattle.rule.specs.declared.Schedule.{Schedule as Code}
use Rattle.rule.specs.Rules.{rule_is, holidays_is, schedule_is, RuleFits, HolidaysFit}
use Rattle.laws_base.specs.Every.{Every}
use Rattle.zone_steady.specs.Steady.{SteadyRoom, low, high}
use Rattle.model.specs.Offset.{offset_bias, greatest_offset}

-- a rule's zone keeps its offset from a to b, widened by e seconds
unfoldable pub steady_within : Bool → ℕ → ℕ → ℕ → Rule → Bool
steady_within back a b e = rule_steady (low back a (e * second)) (high back b (e * second))

-- no date of a holiday record lies among the local dates from a to b, widened by e seconds
unfoldable pub none_within : Bool → ℕ → ℕ → ℕ → Holidays → Bool
none_within back a b e = none_near (low back a (e * second)) (high back b (e * second))

-- the eleven days on each side of t, widened by e seconds, lie in the range
unfoldable pub range_by : Bool → ℕ → ℕ → Bool
range_by back t e = leb (first_instant + 11 * day) (low back t (e * second)) && leb (high back t (e * second) + 11 * day) last_instant

-- the one test of a run of borders, from t to the instant that is e seconds beyond it
unfoldable pub repeats_by : Bool → Schedule → ℕ → ℕ → Bool
repeats_by back s t e = repeats_to s (low back t (e * second)) (high back t (e * second))

-- the instant that is x beyond t
abbrev pub beyond : Bool → ℕ → ℕ → ℕ
beyond true t x = t - x
beyond false t x = t + x

-- n borders from t on all repeat, a week apart; and there is none only if t does not
pub record Repeating (back : Bool) (s : Schedule) (t n : ℕ) : Type 0 where
  pub none : n ≡ 0 → repeats s t ≡ false
  pub each : (i : ℕ) → i < n → repeats s (beyond back t (i * week)) ≡ true

-- ---- dates

-- going on from the date a, or back from it, the date b is met
abbrev pub is_met : Bool → ℕ → ℕ → Bool
is_met false a b = leb a b
is_met true a b = leb b a

-- y is met from a date that was read; where that is none, it is not
abbrev pub met_by : Bool → Option ℤ → ℕ → Bool
met_by back (Some z) y = is_met back (day_of z) y
met_by back None y = false

-- the dates from `from` to y
abbrev pub is_on_way : Bool → ℕ → ℕ → ℕ → Bool
is_on_way false from y = is_in from y
is_on_way true from y = is_in y from

-- a date that was read is one of them
abbrev pub read_on_way : Bool → ℕ → ℕ → Option ℤ → Bool
read_on_way back from y (Some z) = is_on_way back from y (day_of z)
read_on_way back from y None = false

-- a date that was read has the number of a day
pub record Numbered (r : Option ℤ) : Type 0 where
  pub number : (z : ℤ) → r ≡ Some z → IsDayNumber z

-- r is the nearer of two dates: y is met from r where it is from `near`, or where `date` lies on the way to it
pub record Nearer (back : Bool) (from : ℕ) (near date r : Option ℤ) : Type 0 where
  pub numbered : Numbered r
  pub met : (y : ℕ) → met_by back r y ≡ (if met_by back near y then true else read_on_way back from y date)

-- r is the nearest date of l from `from` on, or back from it: a date of l lies on the way to y where y is met from r
abbrev pub Nearest : Bool → ℕ → List ℕ → Option ℤ → Type 0
Nearest back from l r = (y : ℕ) → 0 < y → any (is_on_way back from y) l ≡ met_by back r y

-- the greatest offset of a zone in seconds: 25 h 59 min 59 s
abbrev pub most_offset : ℕ
most_offset = greatest_offset - offset_bias

-- how far behind the second hi, of which `last` is the last date, the date d is sure not to be among the dates
pub record DateAhead (d last hi room : ℕ) : Type 0 where
  pub none : room ≡ 0 → d ≤ last
  pub some : 0 < room → last < d
  pub more : (e : ℕ) → 0 < e → e < room → hi + e + most_offset + day_seconds < d * day_seconds

-- how far before the second lo, of which `first` is the first date
pub record DateBehind (d first lo room : ℕ) : Type 0 where
  pub none : room ≡ 0 → first ≤ d
  pub some : 0 < room → d < first
  pub more : (e : ℕ) → 0 < e → e < room → (d + 3) * day_seconds + most_offset + e ≤ lo

-- ---- the room of each part of the test: how far a span may be widened, on or back

-- before a date of the record h is among the dates of the span from a to b
abbrev pub HolidayRoom : List ℕ → List ℕ → HolidayDates → Bool → Instant → Instant → ℕ → Type 0
HolidayRoom book pack h back a b r = SteadyRoom (λ e. none_within back (nanos a) (nanos b) e (holidays_is book pack h)) r

-- holiday records, and a span of the range
abbrev pub HolidaysAsked : List ℕ → List ℕ → List HolidayDates → Instant → Instant → Type 0
HolidaysAsked book pack closed a b = Every (HolidaysFit book pack) closed × InRange a × InRange b

-- rules, and a span of the range
abbrev pub RulesAsked : List ℕ → List Item → Instant → Instant → Type 0
RulesAsked pack rules a b = Every (RuleFits pack) rules × InRange a × InRange b × (a.sec ≤ b.sec)

-- before a date of one of the records l is among them
abbrev pub HolidaysRoom : List ℕ → List ℕ → List HolidayDates → Bool → Instant → Instant → ℕ → Type 0
HolidaysRoom book pack l back a b r = SteadyRoom (λ e. all (none_within back (nanos a) (nanos b) e) (map (holidays_is book pack) l)) r

-- before one of the rules l changes its offset in it
abbrev pub RulesRoom : List ℕ → List Item → Bool → Instant → Instant → ℕ → Type 0
RulesRoom pack l back a b r = SteadyRoom (λ e. all (steady_within back (nanos a) (nanos b) e) (map (rule_is pack) l)) r

-- the first and the last second of a border whose eleven days on each side lie in the range
abbrev pub earliest_border : ℕ
earliest_border = first_second + 11 * day_seconds

abbrev pub latest_border : ℕ
latest_border = last_second - 11 * day_seconds

-- before the eleven days on each side of t leave the range
abbrev pub RangeRoom : Bool → Instant → ℕ → Type 0
RangeRoom back t r = SteadyRoom (range_by back (nanos t)) r × (0 < r → (earliest_border ≤ t.sec) × (t.sec ≤ latest_border)) × (r ≤ latest_border + 1)

-- before the whole test fails
abbrev pub BorderRoom : List ℕ → List ℕ → Code → Bool → Instant → ℕ → Type 0
BorderRoom book pack s back t r = SteadyRoom (repeats_by back (schedule_is book pack s) (nanos t)) r × (r ≤ latest_border + 1)
