-- `book::body_ok` meets its contract.
use borrow.Author.Rules.{rules}
use native.Mathlib.Omega.{arith}
use Rattle.big_endian.proofs.Tests.{tests}
use Rattle.book.proofs.Bytes.{body_test, body-says, body-hours, body-none}
use Rattle.book.proofs.body_ok.Goals as goal

pub returns-in-0 : goal.returns-in-0
unfolding body_test
returns-in-0 c = body-says _ _ _ (search rules) (search (tests, c.in-0.is))

pub returns-in-1 : goal.returns-in-1
returns-in-1 c = body-hours _ _ _ (omega arith) (omega arith) (omega arith) c.hours_ok.ensures

pub returns-in-3 : goal.returns-in-3
unfolding body_test
returns-in-3 c = body-says _ _ _ (search rules) (search (tests, c.in-3.is, ← c.holidays_ok.ensures))

pub returns-in_default : goal.returns-in_default
returns-in_default c = body-none _ _ _ (omega arith) (omega arith)
