-- `ticket_marks::is_within` meets its contract. Assumes nothing.
use Rattle.std.proofs.Common.{◌∙◌}
use borrow.Author.Tests.{le-ltb}
use Rattle.ticket_marks.specs.Laws.{within-no, within_by}
use Rattle.ticket_marks.proofs.is_within.Goals as goal

pub returns-then-d-lt-SECOND_32 : goal.returns-then-d-lt-SECOND_32
returns-then-d-lt-SECOND_32 c = within_by _ _ _ c.if-d-lt-SECOND_32.true c.difference.ensures.0 c.precedes.ensures

pub returns-else-d-lt-SECOND_32 : goal.returns-else-d-lt-SECOND_32
returns-else-d-lt-SECOND_32 c = let h = c.if-d-lt-SECOND_32.false in le-ltb _ _ h ∙ within-no _ _ h
