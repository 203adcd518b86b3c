-- `walk_hardest::time_of` meets its contract.
use mathlib.Core.Path.{◌∙◌}
use Rattle.walk_hardest.proofs.Parts.{part-interval, part_small, part-is}
use native.Mathlib.Omega.{arith}
use Rattle.walk_hardest.proofs.time_of.Goals as goal

pub between_in-r-requires : goal.between_in-r-requires
between_in-r-requires c = (omega arith, (c.requires.0, part-interval _ _ _ c.requires.1 c.sum-a.result c.sum-b.result c.sum-a.ensures c.sum-b.ensures, (let w = c.requires.0.works in let p = c.requires.0.pauses in let q = c.requires.0.closings in omega arith)))

pub nanoseconds-requires : goal.nanoseconds-requires
nanoseconds-requires c = part_small _ _ _ c.requires.1 c.sum-a.result c.sum-b.result c.sum-a.ensures c.sum-b.ensures _ c.between_in-r.ensures.0

pub returns : goal.returns
returns c = c.nanoseconds.ensures ∙ part-is _ _ _ c.requires.1 c.sum-a.result c.sum-b.result c.sum-a.ensures c.sum-b.ensures _ c.between_in-r.ensures.0
