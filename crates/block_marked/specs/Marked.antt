-- What marked blocks of the code mean, and what they show around an instant.
use Rattle.std.specs.Prelude.{◌≡◌, List, map, take, ℕ}
use Rattle.model.specs.Marks as model
use Rattle.laws_marks.specs.Around as marks
use Rattle.laws_marks.specs.AroundLaws.{both_around}
use Rattle.instant.specs.Instant.{nanos}
use Rattle.mark.specs.Marks.{mark_number}
use Rattle.block_marked.specs.declared.MarkedBlock.{MarkedBlock}
use Rattle.block_marked.specs.declared.MarkedBlocks.{MarkedBlocks}
use Rattle.block_marked.specs.declared.Around.{Around}
use Rattle.block_marked.specs.declared.Sides.{Sides}

-- how many blocks a list holds
abbrev pub most_marked : ℕ
most_marked = 21

-- a block: its ends in nanoseconds, each with its mark
abbrev pub marked_is : MarkedBlock → model.MarkedBlock
marked_is b = model.marked (model.edge (nanos b.start) (mark_number b.start_mark)) (model.edge (nanos b.end) (mark_number b.end_mark))

-- the first n of an array
abbrev pub first_marked : ℕ → List MarkedBlock → List model.MarkedBlock
first_marked n l = map marked_is (take n l)

-- the blocks that are used
abbrev pub marked_list : MarkedBlocks → List model.MarkedBlock
marked_list b = first_marked b.len b.items

-- what is shown around an instant
abbrev pub around_is : Around → marks.Around
around_is a = record { before = a.before; here = a.here; starts = mark_number a.starts; ends = mark_number a.ends }

-- r is what the blocks of a list show around a and around b
abbrev pub SidesOf : ℕ → ℕ → List model.MarkedBlock → Sides → Type 0
SidesOf a b l r = (around_is r.start ≡ marks.around_of a l) × (around_is r.end ≡ marks.around_of b l)

-- r is what x and y show together
abbrev pub BothSides : Sides → Sides → Sides → Type 0
BothSides x y r = (around_is r.start ≡ both_around (around_is x.start) (around_is y.start)) × (around_is r.end ≡ both_around (around_is x.end) (around_is y.end))
