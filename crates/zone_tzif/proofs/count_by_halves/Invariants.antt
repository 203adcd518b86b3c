-- `zone_tzif::count_by_halves` meets its contract.
use Prim.Native.Nat.{◌+◌, ◌≤◌}
use Rattle.zone_tzif.specs.Opened.{count_at}
use Rattle.zone_tzif.proofs.count_by_halves.Given as goal

abbrev pub invariant-loop-n : goal.invariant-loop-n
invariant-loop-n l = (l.lo ≤ count_at l.f l.l l.u) × (count_at l.f l.l l.u ≤ l.lo + l.n) × (l.lo + l.n ≤ l.l.count) × (1 ≤ l.n)

abbrev pub decreases-loop-n : goal.decreases-loop-n
decreases-loop-n l = l.n
