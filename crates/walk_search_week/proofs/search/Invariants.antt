-- `walk_search_week::search` meets its contract: the blocks left, with what is left to find, give what all give. Assumes nothing.
use Prim.Native.Nat.{◌+◌}
use mathlib.Core.Path.{◌≡◌}
use Rattle.model.specs.Walk.{search_blocks}
use Rattle.laws_blocks.specs.Move.{moves}
use Rattle.walk_distance.specs.Distances.{way_of, rest}
use Rattle.walk_search_week.specs.Steps.{search_in_window}
use Rattle.walk_search_week.proofs.search.Given as goal

abbrev pub invariant-loop-i : goal.invariant-loop-i
invariant-loop-i l = search_blocks l.limit (l.w + l.g) l.end l.left (moves l.g (rest (way_of l.back) l.w l.n l.i l.l)) ≡ search_in_window l.back l.n l.limit l.g l.w l.d l.l
