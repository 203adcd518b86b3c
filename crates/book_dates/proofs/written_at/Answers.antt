-- `book_dates::written_at` meets its contract.
use Rattle.book_dates.proofs.Dates.{year-is}
use Rattle.book_dates.proofs.written_at.Goals as goal

pub returns : goal.returns
returns c = record { year = year-is _ _ c.year_of-year.ensures c.be16_at.ensures.0; month = c.from-month.ensures; day = c.from-day.ensures }
