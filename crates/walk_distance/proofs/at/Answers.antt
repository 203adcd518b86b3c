-- `walk_distance::at` meets its contract: up to the range's end. Assumes nothing.
use Rattle.walk_distance.specs.Distances.{way_of}
use Rattle.walk_distance.proofs.Borders.{in-range}
use Rattle.walk_distance.proofs.at.Goals as goal

pub returns : goal.returns
returns c = (c.away.ensures.0, in-range (way_of c.args.back) _ _ _ c.requires.0 c.requires.2 c.away.ensures.0 c.away.ensures.2)
