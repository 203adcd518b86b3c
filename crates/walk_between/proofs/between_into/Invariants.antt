-- `walk_between::between_into` meets its contract: the loop keeps `Adding`, of proofs/Adding.antt. Assumes nothing.
use Prim.Native.Nat.{◌-◌}
use lib.ListN.{length}
use mathlib.Core.Path.{◌≡◌}
use Rattle.instant.specs.Instant.{nanos, Exact, InRange}
use Rattle.rule.specs.Rules.{schedule_is}
use Rattle.walk_between.specs.Sums.{kept_is}
use Rattle.walk_between.proofs.Adding.{Adding, KeptExact}
use Rattle.walk_between.proofs.between_into.Given as goal

abbrev pub invariant-loop-s : goal.invariant-loop-s
invariant-loop-s l =
    Adding (schedule_is l.book l.pack l.s) (nanos l.initial.lo) (nanos l.b) (nanos l.lo) (nanos l.sum) l.windows (kept_is l.kept) × InRange l.lo × Exact l.sum × KeptExact l.kept × (length l.on ≡ length l.initial.on) × (length l.off ≡ length l.initial.off) × (length l.out ≡ length l.initial.out)

abbrev pub decreases-loop-s : goal.decreases-loop-s
decreases-loop-s l =
    nanos l.b - nanos l.lo
