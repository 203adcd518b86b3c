-- `book_dates::date_ok` meets its contract.
use Rattle.book_dates.proofs.Reading.{day-says}
use Rattle.book_dates.proofs.Dates.{date-told}
use borrow.Author.Rules.{rules}
use Rattle.book_dates.proofs.date_ok.Goals as goal

pub returns : goal.returns
returns c = day-says _ _ (search rules) (date-told _ _ c.written_at-d.ensures c.is_date.ensures)
