-- `ask_case`: the case is counted, and the questions that are left go down, since each has bytes.
use Rattle.std.proofs.Common.{◌≤◌, ◌+◌, length}
use Rattle.test_cases.proofs.ask_case.Given as goal

abbrev pub invariant-loop-book : goal.invariant-loop-book
invariant-loop-book g l = l.r.cases ≤ l.fn.seen.cases + 1

abbrev pub decreases-loop-book : goal.decreases-loop-book
decreases-loop-book g l = length l.rest
