-- `civil::month_of` meets its contract.
use native.Mathlib.Omega.{arith}
use Rattle.laws_calendar.specs.Dates.{leap-few}
use Rattle.civil.specs.Formulas.{month-leap, month-common}
use Rattle.civil.proofs.month_of.Goals as goal

pub returns-then-r-lt60 : goal.returns-then-r-lt60
returns-then-r-lt60 c = rw c.if-leap.true ((month-leap _ (rw c.if-leap.true at c.requires)).0 c.if-r-lt60.true)

pub overflow_mul-result : goal.overflow_mul-result
overflow_mul-result c = omega (arith, leap-few c.args.leap)

pub overflow_add-result-then-leap : goal.overflow_add-result-then-leap
overflow_add-result-then-leap c = omega (arith, leap-few c.args.leap)

pub returns-then-leap : goal.returns-then-leap
returns-then-leap c = rw c.if-leap.true ((month-leap _ (rw c.if-leap.true at c.requires)).1 c.if-r-lt60.false)

pub returns-then-r-lt59 : goal.returns-then-r-lt59
returns-then-r-lt59 c = rw c.if-leap.false ((month-common _ (rw c.if-leap.false at c.requires)).0 c.if-r-lt59.true)

pub overflow_mul-result-2 : goal.overflow_mul-result-2
overflow_mul-result-2 c = omega (arith, leap-few c.args.leap)

pub overflow_add-result-2 : goal.overflow_add-result-2
overflow_add-result-2 c = omega (arith, leap-few c.args.leap)

pub returns : goal.returns
returns c = rw c.if-leap.false ((month-common _ (rw c.if-leap.false at c.requires)).1 c.if-r-lt59.false)
