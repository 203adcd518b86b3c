-- `walk_search::fitting` meets its contract: by its tests. Assumes nothing.
use Rattle.instant.specs.Instant.{nanos}
use Rattle.walk_search.proofs.Skipping.{fits_in}
use native.Mathlib.Omega.{arith}
use mathlib.Core.Path.{refl, sym, ◌∙◌}
use borrow.Author.Tests.{ltb-true, ltb-false, not-true, not-false}
use Rattle.walk_search.proofs.fitting.Goals as goal

pub returns-then-not-precedes : goal.returns-then-not-precedes
returns-then-not-precedes c = ((λ e. ltb-false (nanos (c.args.time)) (nanos (c.args.left)) (sym (c.precedes.ensures) ∙ not-true _ (c.if-not-precedes.true-raw))), (λ k. absurd (omega arith)))

pub overflow_add-n : goal.overflow_add-n
overflow_add-n c = let h = ltb-true (nanos (c.args.time)) (nanos (c.args.left)) (sym (c.precedes.ensures) ∙ not-false _ (c.if-not-precedes.false-raw)) in omega (arith, c.requires.1)

pub returns-then-n-eq0 : goal.returns-then-n-eq0
returns-then-n-eq0 c = let h = ltb-true (nanos (c.args.time)) (nanos (c.args.left)) (sym (c.precedes.ensures) ∙ not-false _ (c.if-not-precedes.false-raw)) in ((λ e. absurd (omega arith)), (λ k. omega arith))

pub returns : goal.returns
returns c = ((λ e. absurd (c.if-n-eq0.false e)), (λ k. fits_in _ (c.args.time.sec) (c.args.time.ns) (c.args.left.sec) (c.args.left.ns) refl k (c.requires.0)))
