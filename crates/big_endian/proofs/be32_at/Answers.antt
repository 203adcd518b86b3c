-- `big_endian::be32_at` meets its contract.
use Rattle.big_endian.specs.Be.{be32}
use Rattle.big_endian.proofs.Parts.{be32-past}
use borrow.Author.Rules.{rules}
use Rattle.big_endian.proofs.be32_at.Goals as goal

pub returns-then-i-s : goal.returns-then-i-s
returns-then-i-s c = search be32-past

pub returns : goal.returns
unfolding be32
returns c = search rules
