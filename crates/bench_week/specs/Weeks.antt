-- What the function for C says: a number for each number, in its place.
use Rattle.std.specs.Prelude.{◌≡◌, List, ℕ, ◌+◌, ◌*◌, ◌-◌, ◌/◌, ltb, if◌then◌else◌}
use Rattle.model.specs.Answer.{Answer, gives, refuses}
use Rattle.model.specs.Blocks.{total}
use Rattle.model.specs.Instant.{second, first_second, last_second, week_seconds}
use Rattle.model.specs.Build.{build}
use Rattle.model.specs.Working.{Schedule, working}
use Rattle.rule.specs.Rules.{schedule_is}
use Rattle.rule.specs.declared.Schedule.{Schedule as Schedule'}
use Rattle.laws_base.specs.Mapped.{Mapped}

-- the second at which the last week of the range begins
abbrev pub last_week : ℕ
last_week = last_second - week_seconds

-- the working time of a week in whole seconds; 0 for one that is not wholly inside the range
unfoldable pub week_in : Schedule → ℕ → ℕ
week_in s x =
    if ltb x first_second then 0 else
    if ltb last_week x then 0 else total (working s (x * second) ((x + week_seconds) * second)) / second

-- of a book: one that is refused changes nothing
abbrev pub weeks_of : Answer Schedule → ℕ → ℕ
weeks_of (gives s) x = week_in s x
weeks_of (refuses n p) x = x

-- b has the working time of the week that begins at each second of a, by a schedule and by a book
abbrev pub WeeksBy : List ℕ → List ℕ → Schedule' → List ℕ → List ℕ → Type 0
WeeksBy book pack s a b = Mapped (week_in (schedule_is book pack s)) a b

abbrev pub WeeksIn : List ℕ → List ℕ → List ℕ → List ℕ → Type 0
WeeksIn book pack a b = Mapped (weeks_of (build book pack)) a b
