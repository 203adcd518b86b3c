-- `book_dates::ascend` meets its contract.
use mathlib.Core.Path.{◌≡◌}
use Prim.Native.Nat.{◌+◌, ◌-◌, ◌*◌}
use Rattle.book_dates.specs.Words.{words_at, rises}
use Rattle.book_dates.proofs.ascend.Given as goal

abbrev pub invariant-loop-i : goal.invariant-loop-i
invariant-loop-i l = rises l.last (words_at l.b (l.p + 4 * l.i) (l.n - l.i)) ≡ rises 0 (words_at l.b l.p l.n)
