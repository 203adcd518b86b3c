-- `directory::entries_ok` meets its contract.
use Rattle.directory.specs.Directory.{entries_ok}
use Prim.Native.Nat.{◌+◌, ◌*◌, ◌-◌}
use mathlib.Core.Path.{◌≡◌}
use Rattle.directory.proofs.entries_ok.Given as goal

abbrev pub invariant-loop-i : goal.invariant-loop-i
invariant-loop-i l = entries_ok l.s l.lo l.i (l.n - l.i) ≡ entries_ok l.s (4 + 8 * l.n) 0 l.n
