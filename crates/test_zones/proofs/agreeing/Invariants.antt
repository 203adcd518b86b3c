-- `agreeing` counts: k of the first i pairs agree.
use Rattle.std.proofs.Common.{◌≡◌, ◌≤◌}
use Rattle.big_endian.specs.Walk.{count_below}
use Rattle.test_zones.specs.Answers.{agrees_at}
use Rattle.test_zones.proofs.agreeing.Given as goal

abbrev pub invariant-loop-i : goal.invariant-loop-i
invariant-loop-i l = (l.k ≡ count_below (agrees_at l.f l.z l.a) l.i) × (l.k ≤ l.i)
