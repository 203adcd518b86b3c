-- `query_line::digit` meets its contract.
use native.Mathlib.Omega.{arith}
use Rattle.query_line.proofs.Feeding.{digit-large, digit-goes-on}
use Rattle.query_line.proofs.digit.Goals as goal

pub returns-then-n-gt-DIGIT_FITS : goal.returns-then-n-gt-DIGIT_FITS
returns-then-n-gt-DIGIT_FITS c = λ s. digit-large c.args.f s c.args.x (omega arith) (omega arith) (omega (arith, c.unwrap_or-n.ensures))

pub returns-then-n-gt-HALF : goal.returns-then-n-gt-HALF
returns-then-n-gt-HALF c = λ s. digit-large c.args.f s c.args.x (omega arith) (omega arith) (omega (arith, c.unwrap_or-n.ensures))

pub returns : goal.returns
returns c = λ s. digit-goes-on c.args.f s c.args.x (omega (arith, c.unwrap_or-n.ensures)) (omega arith) (omega arith)
