-- `instant::difference` meets its contract: in each case by arithmetic on the pairs. Assumes nothing.
use Rattle.instant.specs.Instant.{nanos}
use borrow.Author.Tests.{ltb-true, ltb-false, not-true, not-false}
use native.Mathlib.Omega.{arith}
use mathlib.Core.Path.{sym, ◌∙◌}
use Rattle.instant.proofs.difference.Goals as goal

pub returns-then-not-precedes : goal.returns-then-not-precedes
returns-then-not-precedes c = let h = ltb-false (nanos c.args.b) (nanos c.args.a) (sym (c.precedes.ensures) ∙ not-true _ (c.if-not-precedes.true-raw)) in (omega arith, omega arith)

pub overflow_sub-sec-then-b-a : goal.overflow_sub-sec-then-b-a
overflow_sub-sec-then-b-a c = let h = ltb-true (nanos c.args.b) (nanos c.args.a) (sym (c.precedes.ensures) ∙ not-false _ (c.if-not-precedes.false-raw)) in omega arith

pub returns-then-b-a : goal.returns-then-b-a
returns-then-b-a c = let h = ltb-true (nanos c.args.b) (nanos c.args.a) (sym (c.precedes.ensures) ∙ not-false _ (c.if-not-precedes.false-raw)) in (omega arith, omega arith)

pub overflow_sub-sec-2 : goal.overflow_sub-sec-2
overflow_sub-sec-2 c = let h = ltb-true (nanos c.args.b) (nanos c.args.a) (sym (c.precedes.ensures) ∙ not-false _ (c.if-not-precedes.false-raw)) in omega arith

pub overflow_sub-sec-4 : goal.overflow_sub-sec-4
overflow_sub-sec-4 c = let h = ltb-true (nanos c.args.b) (nanos c.args.a) (sym (c.precedes.ensures) ∙ not-false _ (c.if-not-precedes.false-raw)) in omega arith

pub returns : goal.returns
returns c = let h = ltb-true (nanos c.args.b) (nanos c.args.a) (sym (c.precedes.ensures) ∙ not-false _ (c.if-not-precedes.false-raw)) in (omega arith, omega arith)
