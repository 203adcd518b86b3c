-- `walk_list_week::rest` meets its contract. Assumes nothing.
use mir.Syntax.{w64}
use mir.Facts.{to_z_pos}
use native.Mathlib.Omega.{arith}
use mathlib.Core.Path.{ap, ◌∙◌}
use lib.IntN.{pos}
use Prim.Native.Nat.{◌%◌, ◌<◌, ◌^◌}
use Rattle.walk_list_week.proofs.rest.Goals as goal

pub returns : goal.returns
returns c = let h : c.args.t.ns % 1000000000 < 2 ^ 63 = omega arith in to_z_pos w64 h ∙ ap pos (omega arith)
