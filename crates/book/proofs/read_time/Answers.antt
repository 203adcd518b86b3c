-- `book::read_time` meets its contract.
use Rattle.book.specs.Meaning.{time_written}
use Rattle.book.proofs.read_time.Goals as goal

pub returns : goal.returns
unfolding time_written
returns c = search (← c.be32_at.ensures, ← c.be32_at-2.ensures)
