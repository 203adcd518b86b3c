-- `schedule_listing::walk_into` meets its contract: the loop keeps `Walking`, of proofs/Windows.antt. Assumes nothing.
use Rattle.schedule_listing.proofs.Windows.{Walking}
use Rattle.rule.specs.Rules.{schedule_is}
use Rattle.instant.specs.Instant.{InRange, nanos}
use Rattle.walk_list_week.specs.Stretched.{open_of}
use Prim.Native.Nat.{◌-◌}
use Rattle.schedule_listing.proofs.walk_into.Given as goal

abbrev pub invariant-loop-s : goal.invariant-loop-s
invariant-loop-s g l = Walking (schedule_is l.book l.pack l.s) (nanos l.initial.lo) (nanos l.b) l.write l.initial.out (nanos l.lo) (open_of l.last.block) l.last.count l.out × InRange l.lo

abbrev pub decreases-loop-s : goal.decreases-loop-s
decreases-loop-s g l = nanos l.b - nanos l.lo
