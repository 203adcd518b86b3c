use native.Mathlib.Omega.{arith}
use Prim.Native.Nat.{◌+◌}
use mathlib.Core.Path.{◌≡◌, refl, sym, ◌∙◌, ap}
use Rattle.model.specs.Walk.{search_blocks}
use Rattle.laws_blocks.specs.Move.{moves}
use Rattle.walk_distance.specs.Distances.{way_of}
use Rattle.walk_distance.proofs.Blocks.{rest_all, rest-none}
use Rattle.walk_search_week.proofs.Looks.{step-gap, step-found, step-on, step-last, step_left, first-moved, none-moved, nearest-upto}
use Rattle.walk_search_week.proofs.search.Goals as goal

pub loop-i-init : goal.loop-i-init
loop-i-init c = ap (λ k. search_blocks c.args.limit (c.args.w + c.args.g) 0 c.args.d (moves c.args.g k)) (sym (rest_all (way_of c.args.back) _ _ _))

pub overflow_add-from : goal.overflow_add-from
overflow_add-from c = let u = nearest-upto _ _ _ _ _ _ _ c.requires c.loop-i-test.true c.nearest-block.ensures in record { fits = omega (arith, u.0, c.requires.1) }

pub overflow_add-to : goal.overflow_add-to
overflow_add-to c = let u = nearest-upto _ _ _ _ _ _ _ c.requires c.loop-i-test.true c.nearest-block.ensures in record { fits = omega (arith, u.1, c.requires.1) }

pub returns-then-exceeds : goal.returns-then-exceeds
returns-then-exceeds c = (refl, step-gap _ _ _ _ _ _ _ _ _ (first-moved c.args.g c.nearest-block.ensures) c.loop-i.invariant (sym c.exceeds.ensures ∙ c.if-exceeds.true))

pub overflow_add-result : goal.overflow_add-result
overflow_add-result c = let u = nearest-upto _ _ _ _ _ _ _ c.requires c.loop-i-test.true c.nearest-block.ensures in record { fits = omega (arith, u.0, u.1, c.requires.1, c.saturating_sub-len.ensures, c.if-left-len.true) }

pub returns-then-left-len : goal.returns-then-left-len
returns-then-left-len c = step-found _ _ _ _ _ _ _ _ _ (first-moved c.args.g c.nearest-block.ensures) c.loop-i.invariant (sym c.exceeds.ensures ∙ c.if-exceeds.false) _ c.saturating_sub-len.ensures c.if-left-len.true

pub loop-i-preserved : goal.loop-i-preserved
loop-i-preserved c = step-on _ _ _ _ _ _ _ _ _ (first-moved c.args.g c.nearest-block.ensures) c.loop-i.invariant (sym c.exceeds.ensures ∙ c.if-exceeds.false) _ c.saturating_sub-len.ensures c.if-left-len.false

pub returns-then-exceeds-2 : goal.returns-then-exceeds-2
returns-then-exceeds-2 c = (refl, step-last _ _ _ _ _ _ (none-moved c.args.g (rest-none (way_of c.args.back) _ _ _ _ c.loop-i-test.false)) c.loop-i.invariant (sym c.exceeds-2.ensures ∙ c.if-exceeds-2.true))

pub returns : goal.returns
returns c = step_left _ _ _ _ _ _ (none-moved c.args.g (rest-none (way_of c.args.back) _ _ _ _ c.loop-i-test.false)) c.loop-i.invariant (sym c.exceeds-2.ensures ∙ c.if-exceeds-2.false)
