-- How much memory a schedule needs.
use Rattle.std.specs.Prelude.{List, ℕ, ◌+◌, ◌*◌, ◌≤◌, length}
use Rattle.rule.specs.declared.Schedule.{Schedule}
use Rattle.window_memory.specs.Sizes.{numbers_for}

-- the records of a schedule: work, breaks and holidays
abbrev pub records : Schedule → ℕ
records s = s.works + s.pauses + s.closings

-- the numbers that each array of the memory needs for a schedule
abbrev pub room : Schedule → ℕ
room s = numbers_for (records s)

-- the arrays have as many
abbrev pub HasRoom : Schedule → ℕ → Type 0
HasRoom s n = room s ≤ n

-- three lent slices have as many
abbrev pub Lends : Schedule → List ℕ → List ℕ → List ℕ → Type 0
Lends s on off out = (room s ≤ length on) × (room s ≤ length off) × (room s ≤ length out)
