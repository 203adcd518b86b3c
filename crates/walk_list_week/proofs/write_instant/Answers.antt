-- `walk_list_week::write_instant` meets its contract.
use Rattle.walk_list_week.proofs.Placing.{placed-instant}
use lib.ListN.{length-set}
use mathlib.Core.Path.{◌∙◌}
use native.Mathlib.Omega.{arith}
use mir.Facts.{to_z-of_z}
use mir.Syntax.{w64}
use mir.Val.{to_z, of_z}
use Rattle.walk_list_week.proofs.write_instant.Goals as goal

pub bounds-out-j : goal.bounds-out-j
bounds-out-j c = let h = length-set c.args.out.now c.args.i (to_z w64 (of_z w64 c.seconds-s.result)) in omega arith

pub returns : goal.returns
returns c = placed-instant _ _ _ c.requires.0 (to_z-of_z {w = w64} (record { sfits = c.seconds-s.type_inv }) ∙ c.seconds-s.ensures) (to_z-of_z {w = w64} (record { sfits = c.rest-n.type_inv }) ∙ c.rest-n.ensures)
