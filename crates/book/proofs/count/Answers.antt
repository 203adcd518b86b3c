-- `book::count` meets its contract.
use mathlib.Core.Path.{◌∙◌}
use borrow.Author.Rules.{rules}
use Rattle.book.proofs.Entries.{count-is}
use Rattle.book.proofs.count.Goals as goal

pub returns : goal.returns
returns c = (c.count_of.ensures.0 ∙ count-is _ c.requires, search rules)
