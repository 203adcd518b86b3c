-- `walk_distance::window_into` meets its contract: the window lies where `place` says. Assumes nothing.
use Rattle.walk_distance.specs.Distances.{way_of}
use Rattle.walk_distance.proofs.Near.{into-placed, placed-inside}
use Rattle.walk_distance.proofs.window_into.Goals as goal

pub returns : goal.returns
returns g c = (into-placed (way_of c.args.back) _ _ _ _ _ _ _ c.requires.1.1.order c.place-at.ensures.1 c.working_in.ensures.0, placed-inside (way_of c.args.back) _ _ _ _ _ _ _ c.requires.1.1.order c.place-at.ensures.1 c.working_in.ensures.0, c.working_in.ensures.1)
