-- `book_dates::marked_count` meets its contract.
use Rattle.book_dates.proofs.Words.{Marking}
use Rattle.book_dates.proofs.marked_count.Given as goal

abbrev pub invariant-loop-i : goal.invariant-loop-i
invariant-loop-i l = Marking l.b l.p l.n l.marks l.i l.count
