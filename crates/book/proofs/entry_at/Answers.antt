-- `book::entry_at` meets its contract.
use Rattle.book.proofs.Entries.{is-entry}
use Rattle.book.proofs.entry_at.Goals as goal

pub returns : goal.returns
returns c = is-entry _ _ c.requires.0 c.start_at.ensures.0 c.record_at.ensures c.read_entry.ensures.0 c.read_entry.ensures.1
