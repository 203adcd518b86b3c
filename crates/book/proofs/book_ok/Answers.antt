-- `book::book_ok` meets its contract.
use mathlib.Core.Path.{◌∙◌}
use Rattle.book.proofs.Entries.{book-no, book-yes}
use Rattle.book.proofs.book_ok.Goals as goal

pub returns-then-dir_ok : goal.returns-then-dir_ok
returns-then-dir_ok c = book-yes _ c.dir_ok.ensures c.if-dir_ok.true c.count_of.ensures.0 c.records_ok.ensures

pub returns-else-dir_ok : goal.returns-else-dir_ok
returns-else-dir_ok c = c.if-dir_ok.false ∙ book-no _ c.dir_ok.ensures c.if-dir_ok.false
