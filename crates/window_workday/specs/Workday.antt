-- What the functions on a work or break rule are asked and answer.
use Rattle.std.specs.Prelude.{List, map, ℕ, ◌+◌, ◌-◌, ◌≤◌, ◌<◌, ℤ}
use Rattle.model.specs.Basic.{filter, run, joined}
use Rattle.model.specs.Blocks.{Block}
use Rattle.model.specs.Calendar.{contains, weekday}
use Rattle.model.specs.DayNumber.{day_of}
use Rattle.laws_calendar.specs.Numbers.{numbered, IsDayNumber}
use Rattle.instant.specs.Instant.{nanos}
use Rattle.instant.specs.declared.Instant.{Instant}
use Rattle.rule.specs.Rules.{rule_is, RuleFits}
use Rattle.rule.specs.declared.Rule.{Rule}
use Rattle.window_dates.specs.Windows.{Window, IsLocalDates, from_day, upto_day, most_window_dates, rule_piece, rule_blocks}
use Rattle.window_dates.specs.declared.LocalDates.{LocalDates}
use Rattle.window_piece.specs.Filled.{Filled, near, two_days, plain_piece}
use Rattle.window_piece.specs.declared.Frame.{Frame}

-- how many dates there are
abbrev pub date_count : LocalDates → ℕ
date_count days = upto_day days + 1 - from_day days

-- a rule, and the dates that a window of at most 14 days has in its zone
abbrev pub RuleDates : List ℕ → Rule → LocalDates → Instant → Instant → Type 0
RuleDates pack r days lo hi = RuleFits pack r × Window 14 lo hi × IsLocalDates (rule_is pack r).zone lo hi days

-- what the rule shows of a date was added to the first w blocks of the memory, which are now n
abbrev pub PieceAdded : List ℕ → Rule → Instant → Instant → ℕ → List ℕ → ℕ → List ℕ → ℕ → Type 0
PieceAdded pack r lo hi d old w new n = Filled (nanos lo) old w (rule_piece pack r lo hi d) 1 new n

-- what the rule has in the window was added, at most k blocks
abbrev pub RuleAdded : List ℕ → Rule → Instant → Instant → ℕ → List ℕ → ℕ → List ℕ → ℕ → Type 0
RuleAdded pack r lo hi k old w new n = Filled (nanos lo) old w (rule_blocks pack r lo hi) k new n

-- ---- dates by one offset

-- what the dates of a set show of the frame's window, each from a to b nanoseconds behind its midnight
unfoldable pub plain : Frame → ℕ → ℕ → ℕ → ℕ → ℕ → List Block
plain f first count set a b = joined (map (plain_piece f first a b) (filter (λ d. contains set (weekday d)) (run first count)))

-- so many dates from the first on, and the times of day a and b
abbrev pub PlainFits : Frame → ℤ → ℕ → ℕ → ℕ → Type 0
PlainFits f first count a b = (f.first ≤ near) × (a ≤ two_days) × (b ≤ two_days) × (count ≤ most_window_dates) × IsDayNumber first × (day_of first + count < numbered)

-- what these dates show was added
abbrev pub PlainAdded : Frame → ℕ → ℕ → ℕ → ℕ → ℕ → List ℕ → ℕ → List ℕ → ℕ → Type 0
PlainAdded f first count set a b old w new n = Filled f.lo old w (plain f first count set a b) count new n
