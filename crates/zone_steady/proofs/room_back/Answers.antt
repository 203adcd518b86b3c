use Rattle.zone_steady.proofs.Steps.{back-changes, back-stays, back_on}
use Rattle.laws_zone.specs.Zones.{fits-sound}
use mathlib.Core.Path.{sym, ◌∙◌}
use native.Mathlib.Omega.{arith}
use Rattle.zone_steady.proofs.room_back.Goals as goal

pub run_behind-r-requires : goal.run_behind-r-requires
run_behind-r-requires c = (c.requires.0, omega arith)

pub loop-since-init : goal.loop-since-init
loop-since-init c = c.run_behind-r.ensures.1

pub overflow_sub-since : goal.overflow_sub-since
overflow_sub-since c = omega arith

pub run_behind-q-requires : goal.run_behind-q-requires
run_behind-q-requires c = (c.requires.0, omega (arith, c.loop-since.invariant.to))

pub returns-then-q-r : goal.returns-then-q-r
returns-then-q-r c = back-changes _ (fits-sound _ (c.requires.0.fits)) (c.requires.1) (c.loop-since.invariant) (omega arith) (λ g. c.if-q-r.true (c.run_behind-q.ensures.0 ∙ g ∙ sym (c.run_behind-r.ensures.0)))

pub loop-since-smaller : goal.loop-since-smaller
loop-since-smaller c = omega (arith, c.run_behind-q.ensures.1.to)

pub loop-since-preserved : goal.loop-since-preserved
loop-since-preserved c = back_on (c.loop-since.invariant) (omega arith) (c.run_behind-q.ensures.1) (sym (c.run_behind-q.ensures.0) ∙ c.if-q-r.false ∙ c.run_behind-r.ensures.0)

pub overflow_add-result : goal.overflow_add-result
overflow_add-result c = omega arith

pub returns : goal.returns
returns c = back-stays _ (c.loop-since.invariant) (omega arith) (c.requires.2)
