-- What the functions on the marks of a window are asked and answer.
use Rattle.std.specs.Prelude.{◌≡◌, Bool, true, false, Option, None, Some, List, [], ◌∷◌, ◌⊎◌, ℕ, ◌+◌, ◌*◌, ◌≤◌, ltb, length, if◌then◌else◌}
use Rattle.model.specs.Basic.{among, distinct}
use Rattle.model.specs.Calendar.{contains, weekday}
use Rattle.model.specs.Marks.{MarkedBlock, plain, whole_of, whole_of_all, marked_working, start_mark_at, end_mark_at}
use Rattle.model.specs.Working as model
use Rattle.laws_demand3.specs.Windows.{OfRules}
use Rattle.laws_marks.specs.Around.{around_of, start_by, end_by}
use Rattle.laws_marks.specs.Plain.{SteadyIn}
use Rattle.mark.specs.Marks.{mark_number}
use Rattle.instant.specs.Instant.{nanos, InRange}
use Rattle.instant.specs.declared.Instant.{Instant}
use Rattle.block_marked.specs.Marked.{most_marked, marked_is, marked_list, around_is}
use Rattle.block_marked.specs.declared.MarkedBlock.{MarkedBlock as Item}
use Rattle.block_marked.specs.declared.MarkedBlocks.{MarkedBlocks}
use Rattle.block_marked.specs.declared.Sides.{Sides}
use Rattle.book_dates.specs.Days.{dates_at}
use Rattle.civil.specs.Dates.{time_in, TimeFits}
use Rattle.civil.specs.declared.Time.{Time}
use Rattle.zone.specs.Zones.{zone_is, ZoneOk}
use Rattle.zone.specs.declared.Zone.{Zone}
use Rattle.zone_local.specs.Dates.{Apart}
use Rattle.zone_tzif.specs.declared.OffsetBounds.{OffsetBounds}
use Rattle.rule.specs.Rules.{file_at}
use Rattle.rule.specs.declared.Rule.{Rule}
use Rattle.rule.specs.declared.HolidayDates.{HolidayDates}
use Rattle.window_dates.specs.Windows.{Window}
use Rattle.window_marks.specs.declared.Dates.{Dates}
use Rattle.window_marks.specs.declared.Dates.TheVariants.{Weekdays, Written}
use Rattle.window_marks.specs.declared.AnyRule.{AnyRule}
use Rattle.window_marks.specs.declared.Border.{Border}
use Rattle.window_marks.specs.declared.Marks.{Marks}

-- the block that is there, if any
abbrev pub held_marked : Option Item → List MarkedBlock
held_marked None = []
held_marked (Some b) = marked_is b ∷ []

-- ---- rules of records

-- whether a date is one of a rule's
unfoldable pub on_is : List ℕ → Dates → ℕ → Bool
on_is b (Weekdays set) = λ d. contains set (weekday d)
on_is b (Written p n) = among (distinct (dates_at b p n))

-- the rule of a zone with its file, two times of day and dates; and that of a rule of the code
unfoldable pub rule_by : List ℕ → List ℕ → Zone → Time → Time → Dates → model.Rule
rule_by b f z from to dates = record { zone = zone_is f z; on = on_is b dates; from = time_in from; to = time_in to }

abbrev pub any_rule_is : List ℕ → List ℕ → AnyRule → model.Rule
any_rule_is b p x = rule_by b (file_at p x.at x.len) x.zone x.from x.to x.dates

-- that of a work or break record, and of a holiday record, which takes the whole of its dates
abbrev pub of_shift : Rule → AnyRule
of_shift r = record { at = r.at; len = r.len; zone = r.zone; from = r.from; to = r.to; dates = Weekdays r.days }

abbrev midnight : Time
midnight = record { seconds = 0; nanos = 0 }

abbrev pub of_holidays : HolidayDates → AnyRule
of_holidays c = record { at = c.at; len = c.len; zone = c.zone; from = midnight; to = midnight; dates = Written c.dates c.count }

-- dates that are written lie in the book
abbrev pub DatesFit : List ℕ → Dates → Type 0
DatesFit b (Weekdays set) = Unit {0}
DatesFit b (Written p n) = p + 4 * n ≤ length b

pub record AnyRuleFits (b p : List ℕ) (x : AnyRule) : Type 0 where
  pub opened : ZoneOk (file_at p x.at x.len) x.zone
  pub dates : DatesFit b x.dates
  pub from : TimeFits x.from
  pub to : TimeFits x.to

-- ---- the blocks of a window that may touch an instant from a to b

-- a window of at most 14 days, and two instants
pub record Spans (lo hi a b : Instant) : Type 0 where
  pub window : Window 14 lo hi
  pub from_in : InRange a
  pub upto-in : InRange b
  pub order : nanos a ≤ nanos b

-- what `is_near` tells: a date that is on, or else one that is off or whose block lies apart
pub record NearDate (book : List ℕ) (dates : Dates) (bounds : OffsetBounds) (from to : Time) (d : ℕ) (a b : Instant) (answer : Bool) : Type 0 where
  pub near : answer ≡ true → on_is book dates d ≡ true
  pub far : answer ≡ false → (on_is book dates d ≡ false) ⊎ Apart bounds from to d a b

-- l shows around each instant from a to b what all whole blocks of the rule in the window [lo, hi) show
pub record NearBlocks (r : model.Rule) (lo hi a b : Instant) (l : MarkedBlocks) : Type 0 where
  pub same : (u : ℕ) → nanos a ≤ u → u ≤ nanos b → around_of u (marked_list l) ≡ around_of u (whole_of (nanos lo) (nanos hi) r)
  pub few : l.len ≤ most_marked

-- ---- two ends, each in its window

abbrev pub SameWindow : Border → Border → Type 0
SameWindow a b = (nanos a.lo ≡ nanos b.lo) × (nanos a.hi ≡ nanos b.hi)

-- each in a window of at most 14 days, in order
pub record BordersAsked (a b : Border) : Type 0 where
  pub start-window : Window 14 a.lo a.hi
  pub end-window : Window 14 b.lo b.hi
  pub start-in : InRange a.at
  pub end-in : InRange b.at
  pub order : nanos a.at ≤ nanos b.at

-- the whole blocks of rules in the window of a border
abbrev pub whole_at : Border → List model.Rule → List MarkedBlock
whole_at a l = whole_of_all (nanos a.lo) (nanos a.hi) l

-- x is what the rule shows around a and around b
abbrev pub RuleSides : model.Rule → Border → Border → Sides → Type 0
RuleSides r a b x =
    (around_is x.start ≡ around_of (nanos a.at) (whole_of (nanos a.lo) (nanos a.hi) r))
    × (around_is x.end ≡ around_of (nanos b.at) (whole_of (nanos b.lo) (nanos b.hi) r))

-- the same of several rules
abbrev pub RulesSides : List model.Rule → Border → Border → Sides → Type 0
RulesSides l a b x = (around_is x.start ≡ around_of (nanos a.at) (whole_at a l)) × (around_is x.end ≡ around_of (nanos b.at) (whole_at b l))

-- ---- marks

-- the mark of a start in its window [lo, hi), and of an end behind lo and up to hi
abbrev pub start_within : Sides → Sides → Border → ℕ
start_within work off a =
    if ltb (nanos a.at) (nanos a.lo) then plain else
    if ltb (nanos a.at) (nanos a.hi) then start_by (around_is work.start) (around_is off.start) else plain

abbrev pub end_within : Sides → Sides → Border → ℕ
end_within work off b =
    if ltb (nanos b.hi) (nanos b.at) then plain else
    if ltb (nanos b.lo) (nanos b.at) then end_by (around_is work.end) (around_is off.end) else plain

-- a start and an end in order, each in a window of at most seven days or at its border
pub record MarksWanted (a b : Border) : Type 0 where
  pub start-window : Window 7 a.lo a.hi
  pub end-window : Window 7 b.lo b.hi
  pub start-in : InRange a.at
  pub end-in : InRange b.at
  pub order : nanos a.at ≤ nanos b.at
  pub from : nanos a.lo ≤ nanos a.at
  pub upto : nanos b.at ≤ nanos b.hi

-- r has the marks of the block that starts at a in a's window and of the one that ends at b in b's
abbrev pub IsMarks : model.Schedule → Border → Border → Marks → Type 0
IsMarks s a b r =
    (mark_number r.start ≡ start_mark_at (nanos a.at) (marked_working s (nanos a.lo) (nanos a.hi)))
    × (mark_number r.end ≡ end_mark_at (nanos b.at) (marked_working s (nanos b.lo) (nanos b.hi)))

-- where t is true, each rule keeps one offset from four days before the instant lo to four days after the instant hi
abbrev pub SteadyWhere : ℕ → ℕ → model.Schedule → Bool → Type 0
SteadyWhere lo hi s t = t ≡ true → OfRules (SteadyIn lo hi) s
