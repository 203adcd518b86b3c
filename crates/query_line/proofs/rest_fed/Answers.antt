-- `query_line::rest_fed` meets its contract.
use native.Mathlib.Omega.{arith}
use Rattle.query_line.proofs.Feeding.{below-digits, above-digits}
use Rattle.query_line.proofs.rest_fed.Goals as goal

pub returns-in_default : goal.returns-in_default
returns-in_default c = λ s. below-digits c.args.f s c.args.byte (λ e. omega arith) (λ e. omega arith) (omega arith)

pub returns-in_default-2 : goal.returns-in_default-2
returns-in_default-2 c = λ s. above-digits c.args.f s c.args.byte (λ e. omega arith) (λ e. omega arith) (omega arith)
