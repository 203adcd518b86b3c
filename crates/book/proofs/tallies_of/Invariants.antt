-- `book::tallies_of` meets its contract.
use Rattle.book.specs.Meaning.{records_of}
use Rattle.book.proofs.Tally.{Summing}
use Rattle.book.proofs.tallies_of.Given as goal

abbrev pub invariant-loop-i : goal.invariant-loop-i
invariant-loop-i l = Summing (records_of l.book) l.i l.work l.breaks l.holidays l.dates
