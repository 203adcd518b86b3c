-- `walk_distance::window_end` meets its contract: by its test. Assumes nothing.
use Rattle.instant.specs.Instant.{nanos}
use Prim.Native.Nat.{◌+◌, ◌*◌, ◌-◌}
use borrow.Author.Tests.{ltb-true, ltb-false}
use mathlib.Core.Path.{sym, ◌∙◌}
use native.Mathlib.Omega.{arith}
use Rattle.model.specs.Instant.{second}
use Rattle.walk_distance.proofs.WholeWeeks.{week_seconds}
use Rattle.walk_distance.proofs.window_end.Goals as goal

pub returns-then-precedes : goal.returns-then-precedes
returns-then-precedes c = let h = ltb-true ((c.args.x.sec + week_seconds) * second + c.args.x.ns) (nanos c.args.end) (sym c.precedes.ensures ∙ c.if-precedes.true) in (omega arith, record { sec = omega arith; ns = omega arith })

pub returns : goal.returns
returns c = let h = ltb-false ((c.args.x.sec + week_seconds) * second + c.args.x.ns) (nanos c.args.end) (sym c.precedes.ensures ∙ c.if-precedes.false) in (omega arith, c.requires.1)
