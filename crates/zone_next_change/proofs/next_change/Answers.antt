use Rattle.zone_next_change.specs.NextLaws.{run-next, run-never, late-never}
use Rattle.laws_zone.specs.Runs.{run_on}
use mathlib.Core.Path.{sym, ◌∙◌}
use Prim.Native.Nat.{◌-◌}
use native.Mathlib.Omega.{arith}
use Rattle.zone_next_change.proofs.next_change.Goals as goal

pub returns-then-u-ge-LAST : goal.returns-then-u-ge-LAST
returns-then-u-ge-LAST c = late-never _ _ (omega arith)

pub returns-then-q-r : goal.returns-then-q-r
returns-then-q-r c = run-next _ (c.loop-until.invariant) (omega arith) (λ g. c.if-q-r.true (c.run_at-q.ensures.0 ∙ g ∙ sym (c.run_at-r.ensures.0)))

pub returns : goal.returns
returns c = run-never _ (c.loop-until.invariant) (omega arith)
