-- `book::record_at` meets its contract.
use Rattle.book.specs.Meaning.{bytes_at}
use Rattle.book.proofs.record_at.Goals as goal

pub returns : goal.returns
unfolding bytes_at
returns c = search (← c.start_at.ensures.0, ← c.len_at.ensures.0, c.part.ensures)
