-- `big_endian::four_at` meets its contract.
use Rattle.big_endian.specs.Be.{be32}
use borrow.Author.Rules.{rules}
use Rattle.big_endian.proofs.four_at.Goals as goal

pub returns : goal.returns
unfolding be32
returns c = search rules
