-- `civil::days_in_month` meets its contract.
use native.Mathlib.Omega.{arith}
use borrow.Author.Tests.{ne_eqb}
use Rattle.model.specs.Calendar.{days_in_month}
use Rattle.civil.proofs.days_in_month.Goals as goal

pub returns-then-month-eq2 : goal.returns-then-month-eq2
unfolding days_in_month
returns-then-month-eq2 c = simp (c.if-leap.true, c.if-month-eq2.true)

pub returns-then-leap : goal.returns-then-leap
unfolding days_in_month
returns-then-leap c = simp (c.if-leap.true, ne_eqb _ _ c.if-month-eq2.false) (omega arith)

pub returns : goal.returns
unfolding days_in_month
returns c = simp c.if-leap.false (omega arith)
