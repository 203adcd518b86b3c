-- `Case::place_of`: each part has less than 2^32 bytes.
use Rattle.std.proofs.Common.{◌+◌, ◌*◌, ◌≤◌}
use Rattle.big_endian.specs.Be.{four_bytes}
use Rattle.test_cases.proofs.Case.place_of.Given as goal

abbrev pub invariant-loop-i : goal.invariant-loop-i
invariant-loop-i g l = (4 * g.row.N ≤ l.r) × (l.r ≤ 4 * g.row.N + l.i * four_bytes)
