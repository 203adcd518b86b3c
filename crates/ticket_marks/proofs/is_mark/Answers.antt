-- `ticket_marks::is_mark` meets its contract. Assumes nothing.
use Rattle.std.proofs.Common.{◌∙◌}
use borrow.Author.Tests.{le-ltb}
use Rattle.ticket_marks.specs.Laws.{mark-no, mark-by}
use Rattle.ticket_marks.proofs.is_mark.Goals as goal

pub returns-then-x-lt-NAMES : goal.returns-then-x-lt-NAMES
returns-then-x-lt-NAMES c = mark-by _ _ c.if-x-lt-NAMES.true c.is_within.ensures

pub returns-else-x-lt-NAMES : goal.returns-else-x-lt-NAMES
returns-else-x-lt-NAMES c = let h = c.if-x-lt-NAMES.false in le-ltb _ _ h ∙ mark-no _ _ h
