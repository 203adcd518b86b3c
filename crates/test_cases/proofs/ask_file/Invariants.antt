-- `ask_file`: each case that was counted has taken bytes of the file.
use Rattle.std.proofs.Common.{◌≤◌, ◌+◌, length}
use Rattle.test_cases.proofs.ask_file.Given as goal

abbrev pub invariant-loop-case : goal.invariant-loop-case
invariant-loop-case g l = l.seen.cases + length l.case-iterator.0.bytes.now ≤ length l.fn.file
