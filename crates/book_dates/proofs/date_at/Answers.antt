-- `book_dates::date_at` meets its contract.
use Rattle.book_dates.proofs.Dates.{day-told}
use Rattle.book_dates.proofs.date_at.Goals as goal

pub returns : goal.returns
returns c = day-told _ _ c.written_at.ensures c.day_of.ensures
