-- `walk_hardest::hardest` meets its contract.
use native.Mathlib.Omega.{arith}
use Rattle.walk_hardest.proofs.hardest.Goals as goal

pub whole_times-requires : goal.whole_times-requires
whole_times-requires c = (c.requires, (let n = c.requires.1.few in omega arith))

pub hardest_by-requires : goal.hardest_by-requires
hardest_by-requires c = (c.requires, c.whole_times.ensures)
