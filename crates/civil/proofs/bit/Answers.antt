-- `civil::bit` meets its contract.
use native.Mathlib.Omega.{arith}
use Rattle.civil.specs.DateLaws.{shift_one}
use Rattle.civil.proofs.bit.Goals as goal

pub returns : goal.returns
returns c = shift_one _ _ c.requires (omega arith)
