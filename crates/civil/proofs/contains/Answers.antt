-- `civil::contains` meets its contract.
use Rattle.std.proofs.Common.{◌∙◌, arith}
use borrow.Author.Tests.{lt-leb}
use Rattle.civil.specs.DateLaws.{past, masked}
use Rattle.civil.proofs.contains.Goals as goal

pub returns-then-day-le7 : goal.returns-then-day-le7
returns-then-day-le7 c = rw c.bit.ensures (masked _ _ (omega arith) (omega arith))

pub returns-else-day-le7 : goal.returns-else-day-le7
returns-else-day-le7 c = lt-leb _ _ c.if-day-le7.false ∙ past _ _ (omega arith) (omega arith)
