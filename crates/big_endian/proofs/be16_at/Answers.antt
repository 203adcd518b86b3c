-- `big_endian::be16_at` meets its contract.
use Rattle.big_endian.specs.Be.{be16}
use Rattle.big_endian.proofs.Parts.{be16-past}
use native.Mathlib.Omega.{arith}
use borrow.Author.Rules.{rules}
use Rattle.big_endian.proofs.be16_at.Goals as goal

pub returns-then-i-s : goal.returns-then-i-s
returns-then-i-s c = (search be16-past, omega arith)

pub returns : goal.returns
unfolding be16
returns c = search rules
