-- `book::read_entry` meets its contract.
use Rattle.book.proofs.Entries.{entry_read}
use Rattle.book.proofs.read_entry.Goals as goal

pub returns : goal.returns
returns c = (entry_read _ _ c.small_at-n.ensures.0 c.byte_at.ensures c.byte_at-2.ensures c.read_time-start.ensures c.read_time-end.ensures c.be16_at.ensures.0, c.be16_at.ensures.1)
