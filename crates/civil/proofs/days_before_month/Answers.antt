-- `civil::days_before_month` meets its contract.
use native.Mathlib.Omega.{arith}
use Rattle.civil.specs.Formulas.{start_of}
use Rattle.civil.proofs.days_before_month.Goals as goal

pub overflow_add-result : goal.overflow_add-result
overflow_add-result c = omega (arith, (start_of c.args.month c.requires).0)

pub returns-then-month-gt2 : goal.returns-then-month-gt2
returns-then-month-gt2 c = rw c.if-leap.true ((start_of _ c.requires).1.1.0 c.if-month-gt2.true)

pub returns-then-leap : goal.returns-then-leap
returns-then-leap c = rw c.if-leap.true ((start_of _ c.requires).1.1.1 c.if-month-gt2.false)

pub returns : goal.returns
returns c = rw c.if-leap.false (start_of _ c.requires).1.0
