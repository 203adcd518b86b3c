-- `big_endian::be64_at` meets its contract.
use Rattle.big_endian.specs.Be.{be64}
use Rattle.big_endian.proofs.Parts.{be64-past}
use borrow.Author.Rules.{rules}
use Rattle.big_endian.proofs.be64_at.Goals as goal

pub returns-then-i-s : goal.returns-then-i-s
returns-then-i-s c = search be64-past

pub returns : goal.returns
unfolding be64
returns c = search rules
