-- `book::holidays_ok` meets its contract.
use borrow.Author.Rules.{rules}
use Rattle.big_endian.proofs.Tests.{tests}
use Rattle.book.proofs.Bytes.{holidays_test, dates-says}
use Rattle.book.proofs.holidays_ok.Goals as goal

pub returns-then-l-p : goal.returns-then-l-p
unfolding holidays_test
returns-then-l-p c = dates-says _ _ (search rules) (search tests)

pub returns-then-l-p-2 : goal.returns-then-l-p-2
unfolding holidays_test
returns-then-l-p-2 c = dates-says _ _ (search rules) (search (tests, ← c.dates_ok.ensures, ← c.be16_at-n.ensures.0))

pub returns-else-l-p-2 : goal.returns-else-l-p-2
unfolding holidays_test
returns-else-l-p-2 c = dates-says _ _ (search rules) (search (tests, ← c.be16_at-n.ensures.0))
