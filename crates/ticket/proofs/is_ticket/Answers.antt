-- `ticket::is_ticket` meets its contract. Assumes nothing.
use Rattle.ticket.specs.Sound.{instant-in, sound-state, sound-last, sound-since, sound-order, sound-done, sound-count, sound-marks}
use borrow.Author.Tests.{not-true, not-false}
use mathlib.Core.Path.{sym, ◌∙◌}
use native.Mathlib.Omega.{arith}
use Rattle.ticket.proofs.is_ticket.Goals as goal

pub returns-then-not-is_state : goal.returns-then-not-is_state
returns-then-not-is_state c = sound-state _ (sym (c.is_state.ensures) ∙ not-true _ (c.if-not-is_state.true-raw))

-- src/lib.rt:86:9
pub returns-then-not-is_instant : goal.returns-then-not-is_instant
returns-then-not-is_instant c = sound-last _ (sym (c.is_instant.ensures) ∙ not-true _ (c.if-not-is_instant.true-raw))

-- src/lib.rt:89:9
pub returns-then-not-is_instant-2 : goal.returns-then-not-is_instant-2
returns-then-not-is_instant-2 c = sound-since _ (sym (c.is_instant.ensures) ∙ not-false _ (c.if-not-is_instant.false-raw)) (sym (c.is_instant-2.ensures) ∙ not-true _ (c.if-not-is_instant-2.true-raw))

-- src/lib.rt:92:9
pub returns-then-precedes : goal.returns-then-precedes
returns-then-precedes c = sound-order _ (sym (c.is_instant.ensures) ∙ not-false _ (c.if-not-is_instant.false-raw)) (sym (c.is_instant-2.ensures) ∙ not-false _ (c.if-not-is_instant-2.false-raw)) (sym (c.precedes.ensures) ∙ c.if-precedes.true)

-- src/lib.rt:94:9
pub is_within-requires : goal.is_within-requires
is_within-requires c = instant-in _ (sym (c.is_instant-2.ensures) ∙ not-false _ (c.if-not-is_instant-2.false-raw))

-- src/lib.rt:95:9
pub returns-then-not-is_within : goal.returns-then-not-is_within
returns-then-not-is_within c = sound-done _ (sym (c.is_instant.ensures) ∙ not-false _ (c.if-not-is_instant.false-raw)) (sym (c.is_instant-2.ensures) ∙ not-false _ (c.if-not-is_instant-2.false-raw)) (sym (c.precedes.ensures) ∙ c.if-precedes.false) (sym (c.is_within.ensures) ∙ not-true _ (c.if-not-is_within.true-raw))

-- src/lib.rt:98:9
pub returns-then-marks-gt-CAPACITY : goal.returns-then-marks-gt-CAPACITY
returns-then-marks-gt-CAPACITY c = sound-count _ (sym (c.is_instant.ensures) ∙ not-false _ (c.if-not-is_instant.false-raw)) (sym (c.is_instant-2.ensures) ∙ not-false _ (c.if-not-is_instant-2.false-raw)) (sym (c.precedes.ensures) ∙ c.if-precedes.false) (sym (c.is_within.ensures) ∙ not-false _ (c.if-not-is_within.false-raw)) (c.if-marks-gt-CAPACITY.true)

-- src/lib.rt:100:5
pub are_marks-requires : goal.are_marks-requires
are_marks-requires c = (omega (arith, c.if-marks-gt-CAPACITY.false), instant-in _ (sym (c.is_instant.ensures) ∙ not-false _ (c.if-not-is_instant.false-raw)))

-- src/lib.rt:75:1
pub returns : goal.returns
returns c = c.are_marks.ensures ∙ sound-marks _ (sym (c.is_instant.ensures) ∙ not-false _ (c.if-not-is_instant.false-raw)) (sym (c.is_instant-2.ensures) ∙ not-false _ (c.if-not-is_instant-2.false-raw)) (sym (c.precedes.ensures) ∙ c.if-precedes.false) (sym (c.is_within.ensures) ∙ not-false _ (c.if-not-is_within.false-raw)) (sym (c.is_state.ensures) ∙ not-false _ (c.if-not-is_state.false-raw)) (omega (arith, c.if-marks-gt-CAPACITY.false))
