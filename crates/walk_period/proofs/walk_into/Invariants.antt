-- `walk_period::walk_into` meets its contract: the loop keeps `Walking`, of proofs/Walking.antt. Assumes nothing.
use lib.ListN.{length}
use mathlib.Core.Path.{◌≡◌}
use Prim.Native.Nat.{◌-◌}
use Rattle.instant.specs.Instant.{nanos}
use Rattle.model.specs.Walk.{ahead}
use Rattle.rule.specs.Rules.{schedule_is}
use Rattle.walk_distance.specs.Distances.{way_of, Short}
use Rattle.walk_period_week.specs.SoFars.{KnownExact}
use Rattle.walk_period.proofs.Walking.{Walking}
use Rattle.walk_period.proofs.walk_into.Given as goal

abbrev pub invariant-loop-s : goal.invariant-loop-s
invariant-loop-s l = Walking (ahead (way_of l.back) (schedule_is l.book l.pack l.s) (nanos l.t)) (nanos l.limit) (nanos l.end) (nanos l.x) l.known × Short l.x × KnownExact l.known × (length l.on ≡ length l.initial.on) × (length l.off ≡ length l.initial.off) × (length l.out ≡ length l.initial.out)

abbrev pub decreases-loop-s : goal.decreases-loop-s
decreases-loop-s l = nanos l.end - nanos l.x
