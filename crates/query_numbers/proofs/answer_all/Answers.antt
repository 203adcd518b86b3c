use native.Mathlib.Omega.{arith}
use mathlib.Core.Path.{refl, sym, ◌∙◌}
use Rattle.query_numbers.proofs.Answering as A
use borrow.Author.Rules.{rules}
use Rattle.query_numbers.proofs.answer_all.Goals as goal

pub loop-left-init : goal.loop-left-init
loop-left-init c = (refl, (omega arith, omega arith, refl))

pub answer_one-requires : goal.answer_one-requires
answer_one-requires c = (c.requires.0, (let h = c.loop-left.invariant.1.0 in omega arith), (let h = c.loop-left.invariant.1.1 in omega arith))

pub overflow_add-i : goal.overflow_add-i
overflow_add-i c = let h = c.loop-left.invariant.1.0 in search rules

pub overflow_add-at : goal.overflow_add-at
overflow_add-at c = let h = c.loop-left.invariant.1.1 in search rules

pub loop-left-smaller : goal.loop-left-smaller
loop-left-smaller c = omega arith

pub loop-left-preserved : goal.loop-left-preserved
loop-left-preserved c = let h = c.loop-left.invariant.1.0 in let g = c.loop-left.invariant.1.1 in let k = c.answer_one.auto.out in (A.all-turned _ _ _ _ _ _ c.loop-left-test.true c.answer_one.ensures c.loop-left.invariant.0, (omega arith, omega arith, k ∙ c.loop-left.invariant.1.2))

pub returns : goal.returns
returns c = sym (A.none_left _ _ _ _ _ _ c.loop-left-test.false) ∙ c.loop-left.invariant.0
