-- `walk_period_week::joined` meets its contract: the blocks left give what all behind the nearest give. Assumes nothing.
use Rattle.walk_distance.specs.Distances.{way_of, rest}
use Rattle.model.specs.Walk.{period_in, growing}
use mathlib.Core.Path.{◌≡◌}
use Rattle.walk_period_week.proofs.joined.Given as goal

abbrev pub invariant-loop-i : goal.invariant-loop-i
invariant-loop-i l = period_in 0 (growing 0 l.e) (rest (way_of l.back) l.w l.n l.i l.l) ≡ period_in 0 (growing 0 l.end) (rest (way_of l.back) l.w l.n 1 l.l)
