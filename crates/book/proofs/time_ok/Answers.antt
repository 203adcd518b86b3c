-- `book::time_ok` meets its contract.
use mathlib.Core.Path.{◌∙◌}
use native.Mathlib.Omega.{arith}
use borrow.Author.Tests.{le-ltb}
use Rattle.model.specs.Instant.{day_seconds}
use Rattle.book.proofs.Times.{time-late, time-left}
use Rattle.book.proofs.time_ok.Goals as goal

pub returns-then-be32_at-lt-DAY : goal.returns-then-be32_at-lt-DAY
returns-then-be32_at-lt-DAY c = time-left _ _ (omega arith) c.be32_at.ensures (omega arith) c.be32_at-then-be32_at-lt-DAY.ensures

pub returns-else-be32_at-lt-DAY : goal.returns-else-be32_at-lt-DAY
returns-else-be32_at-lt-DAY c = le-ltb c.be32_at.result day_seconds (omega arith) ∙ time-late _ _ (omega arith) c.be32_at.ensures (omega arith)
