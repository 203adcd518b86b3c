use mathlib.Core.Path.{refl, ◌∙◌}
use Prim.Native.Nat.{◌-◌}
use native.Mathlib.Omega.{arith}
use Rattle.laws_hardest.specs.Logs.{log-anywhere}
use Rattle.walk_hardest.proofs.Going.{going-starts, going-ends, going_on_lem, can-hold, part-asked, value-is, value-small}
use Rattle.walk_hardest.proofs.hardest_by.Goals as goal

pub first_start-requires : goal.first_start-requires
first_start-requires c = log-anywhere _ _ c.requires.0.1.fits

pub loop-i-init : goal.loop-i-init
loop-i-init c = going-starts _ _ _ _ _ c.first_start.ensures

pub take_up-held-requires : goal.take_up-held-requires
take_up-held-requires c = ((can-hold _ _ _ _ _ c.requires.0.1 c.requires.1), (let h = c.loop-i-test.true in let g = c.count-i-end.ensures in omega arith), c.loop-i.invariant.holds)

pub part_time-part-requires : goal.part_time-part-requires
part_time-part-requires c = (c.requires.0, part-asked _ _ _ _ _ c.requires.0.1 c.requires.1 _ (let h = c.loop-i-test.true in let g = c.count-i-end.ensures in omega arith) _ c.take_up-held.ensures.0 c.take_up-held.ensures.1)

pub run_at-run-requires : goal.run_at-run-requires
run_at-run-requires c = (log-anywhere _ _ c.requires.0.1.fits, (let h = c.loop-i-test.true in let g = c.count-i-end.ensures in omega arith))

pub overflow_add-held : goal.overflow_add-held
overflow_add-held c = let m = value-small _ _ _ _ _ c.requires.0.1 c.requires.1 _ (let h = c.loop-i-test.true in let g = c.count-i-end.ensures in omega arith) _ c.take_up-held.ensures.0 c.take_up-held.ensures.1 c.part_time-part.ensures in omega arith

pub leave-held-requires : goal.leave-held-requires
leave-held-requires c = ((can-hold _ _ _ _ _ c.requires.0.1 c.requires.1), (let h = c.loop-i-test.true in let g = c.count-i-end.ensures in omega arith), c.take_up-held.ensures.0)

pub loop-i-preserved : goal.loop-i-preserved
loop-i-preserved c = going_on_lem _ _ _ _ _ c.requires.0.1 c.requires.1 _ (let h = c.loop-i-test.true in let g = c.count-i-end.ensures in omega arith) _ c.take_up-held.ensures.0 c.take_up-held.ensures.1 c.loop-i.invariant (value-is _ _ _ _ _ c.requires.0.1 c.requires.1 _ (let h = c.loop-i-test.true in let g = c.count-i-end.ensures in omega arith) _ c.take_up-held.ensures.0 c.take_up-held.ensures.1 c.part_time-part.ensures) c.run_at-run.ensures.0 c.harder-best.ensures c.leave-held.ensures (omega arith)

pub returns : goal.returns
returns c = going-ends _ _ _ _ _ c.loop-i.invariant (let h = c.loop-i-test.false in let g = c.count-i-end.ensures in omega arith)
