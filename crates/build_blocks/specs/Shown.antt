-- What the functions that fill a block list are asked and answer.
use Rattle.std.specs.Prelude.{◌≡◌, Bool, not, Option, None, Some, List, [], ◌∷◌, ◌++◌, map, ℕ, ◌+◌, ◌≤◌, ◌<◌, length, take, if◌then◌else◌}
use Rattle.model.specs.Blocks.{Block as Block'}
use Rattle.model.specs.Build.{is_none}
use Rattle.model.specs.Instant.{day}
use Rattle.model.specs.Walk.{onward}
use Rattle.model.specs.Working.{blocks_of_all}
use Rattle.instant.specs.Instant.{nanos}
use Rattle.instant.specs.declared.Instant.{Instant}
use Rattle.block_list.specs.Listed.{capacity, block_is, list_of}
use Rattle.block_list.specs.declared.Block.{Block}
use Rattle.block_list.specs.declared.Blocks.{Blocks}
use Rattle.civil.specs.Dates.{time_in}
use Rattle.rule.specs.Rules.{rule_is, RuleFits}
use Rattle.laws_base.specs.Every.{Every}
use Rattle.rule.specs.declared.Rule.{Rule}
use Rattle.zone_local.specs.Dates.{till_time}
use Rattle.window_dates.specs.Windows.{Window, IsLocalDates, from_day, upto_day, most_window_dates, rule_piece, rule_blocks}
use Rattle.window_piece.specs.Filled.{two_days, IsFrame}
use Rattle.build_blocks.specs.declared.Shifts.{Shifts}

-- the block that is there, if any
abbrev pub held_block : Option Block → List Block'
held_block None = []
held_block (Some b) = block_is b ∷ []

-- there is a block
unfoldable pub any_block : List Block' → Bool
any_block l = not (is_none l)

-- what a rule shows of the date d in the window [lo, hi), if it is on there
abbrev pub date_shows : List ℕ → Rule → Instant → Instant → ℕ → List Block'
date_shows pack r lo hi d = if (rule_is pack r).on d then rule_piece pack r lo hi d else []

-- what the first n rules have in the window [lo, hi)
abbrev pub blocks_shown : List ℕ → List Rule → ℕ → Instant → Instant → List Block'
blocks_shown pack rules n lo hi = blocks_of_all (nanos lo) (nanos hi) (map (rule_is pack) (take n rules))

-- the dates of a rule in the window [lo, hi), their frame, and the times of day of the shift's start and end
pub record IsShifts (pack : List ℕ) (r : Rule) (lo hi : Instant) (x : Shifts) : Type 0 where
  pub dates : IsLocalDates (rule_is pack r).zone lo hi x.days
  pub framed : IsFrame x.days lo hi x.frame
  pub from_is : x.from ≡ time_in r.from
  pub to_is : x.to ≡ till_time (time_in r.from) (time_in r.to)
  pub early : x.from < day
  pub soon : x.to ≤ two_days

-- a rule, and a date that a window of at most 14 days has in its zone
abbrev pub ShiftsDate : List ℕ → Rule → Shifts → ℕ → Instant → Instant → Type 0
ShiftsDate pack r x d lo hi = RuleFits pack r × Window 14 lo hi × IsShifts pack r lo hi x × (from_day x.days ≤ d) × (d ≤ upto_day x.days)

-- the first n of at most 16 rules, and a window of at most 14 days
abbrev pub RulesIn : List ℕ → List Rule → ℕ → Instant → Instant → Type 0
RulesIn pack rules n lo hi = (n ≤ 16) × Every (RuleFits pack) (take n rules) × Window 14 lo hi

-- how many blocks 16 rules have at most, each of them one for each of 21 dates
abbrev pub most_shown : ℕ
most_shown = 336

-- the blocks that a rule has in the window [lo, hi), from lo, stand behind those of a list; a rule shows at most 21 dates
pub record RuleAdded (pack : List ℕ) (r : Rule) (lo hi : Instant) (old new : Blocks) : Type 0 where
  pub same : list_of new ≡ list_of old ++ onward (nanos lo) (rule_blocks pack r lo hi)
  pub few : new.len ≤ old.len + most_window_dates
  pub long : length new.items ≡ capacity

-- the blocks of the first n rules in the window [lo, hi), from lo; a rule shows at most 21 dates
pub record Listed (pack : List ℕ) (rules : List Rule) (n : ℕ) (lo hi : Instant) (b : Blocks) : Type 0 where
  pub same : list_of b ≡ onward (nanos lo) (blocks_shown pack rules n lo hi)
  pub few : b.len ≤ most_shown
