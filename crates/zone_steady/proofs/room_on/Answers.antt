use Rattle.zone_steady.proofs.Steps.{on-changes, on-stays}
use Rattle.laws_zone.specs.Zones.{fits-sound}
use Rattle.laws_zone.specs.Runs.{run_on}
use mathlib.Core.Path.{sym, ◌∙◌}
use native.Mathlib.Omega.{arith}
use Rattle.zone_steady.proofs.room_on.Goals as goal

pub run_at-r-requires : goal.run_at-r-requires
run_at-r-requires c = (c.requires.0, omega arith)

pub loop-until-init : goal.loop-until-init
loop-until-init c = c.run_at-r.ensures.1

pub run_at-q-requires : goal.run_at-q-requires
run_at-q-requires c = (c.requires.0, omega arith)

pub returns-then-q-r : goal.returns-then-q-r
returns-then-q-r c = on-changes _ (fits-sound _ (c.requires.0.fits)) (c.requires.1) (c.loop-until.invariant) (omega arith) (λ g. c.if-q-r.true (c.run_at-q.ensures.0 ∙ g ∙ sym (c.run_at-r.ensures.0)))

pub loop-until-smaller : goal.loop-until-smaller
loop-until-smaller c = omega (arith, c.run_at-q.ensures.1.on)

pub loop-until-preserved : goal.loop-until-preserved
loop-until-preserved c = run_on (c.loop-until.invariant) (c.run_at-q.ensures.1) (sym (c.run_at-q.ensures.0) ∙ c.if-q-r.false ∙ c.run_at-r.ensures.0)

pub overflow_sub-result : goal.overflow_sub-result
overflow_sub-result c = omega arith

pub returns : goal.returns
returns c = on-stays _ (c.loop-until.invariant) (omega arith)
