-- `zone_steady::room_on` meets its contract: the loop keeps a run from lo.
use Rattle.zone.specs.Zones.{zone_is}
use Rattle.laws_zone.specs.Runs.{Run}
use Rattle.model.specs.Zone.{offset_at}
use Prim.Native.Nat.{◌+◌, ◌-◌}
use Rattle.zone_steady.proofs.room_on.Given as goal

abbrev pub invariant-loop-until : goal.invariant-loop-until
invariant-loop-until l = Run (offset_at (zone_is l.f l.z)) l.lo l.until

abbrev pub decreases-loop-until : goal.decreases-loop-until
decreases-loop-until l = l.hi + 1 - l.until
