-- `book::last_default` meets its contract.
use mathlib.Core.Option.{none}
use mathlib.Core.Path.{◌≡◌}
use Prim.Native.Nat.{◌≤◌}
use lib.ListN.{drop, get_elem?}
use Rattle.model.specs.Book.{last_default}
use Rattle.book.specs.Meaning.{records_of}
use Rattle.book.proofs.last_default.Given as goal

abbrev pub invariant-loop-i : goal.invariant-loop-i
invariant-loop-i l = (l.found ≤ l.n) × (last_default (get_elem? (records_of l.book) l.found) (drop l.i (records_of l.book)) ≡ last_default none (records_of l.book))
