-- `schedule_ticket::first` meets its contract. Assumes nothing.
use Rattle.schedule_ticket.proofs.Answers.{first-refused, first-started}
use borrow.Author.Tests.{not-true, not-false}
use mathlib.Core.Path.{sym, ◌∙◌}
use Rattle.schedule_ticket.proofs.first.Goals as goal

-- src/lib.rt:116:9
pub returns-then-not-may_begin : goal.returns-then-not-may_begin
returns-then-not-may_begin c = first-refused _ c.args.a c.args.t _ (sym (c.may_begin.ensures) ∙ not-true _ (c.if-not-may_begin.true-raw)) (c.refused.ensures)

-- src/lib.rt:118:5
pub start-requires : goal.start-requires
start-requires c = c.requires

-- src/lib.rt:111:1
pub returns : goal.returns
returns c = first-started _ c.args.a c.args.t _ (sym (c.may_begin.ensures) ∙ not-false _ (c.if-not-may_begin.false-raw)) (c.start.ensures)
