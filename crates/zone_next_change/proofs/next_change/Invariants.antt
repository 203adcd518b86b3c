-- `zone_next_change::next_change` meets its contract: the loop keeps a run from u.
use Rattle.zone.specs.Zones.{zone_is}
use Rattle.laws_zone.specs.Runs.{Run}
use Rattle.model.specs.Zone.{offset_at}
use Prim.Native.Nat.{◌+◌, ◌-◌}
use Rattle.model.specs.Instant.{last_second}
use Rattle.zone_next_change.proofs.next_change.Given as goal

abbrev pub invariant-loop-until : goal.invariant-loop-until
invariant-loop-until l = Run (offset_at (zone_is l.f l.z)) l.u l.until

abbrev pub decreases-loop-until : goal.decreases-loop-until
decreases-loop-until l = last_second + 1 - l.until
