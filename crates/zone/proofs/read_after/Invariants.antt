-- `zone::read_after` meets its contract.
use mathlib.Core.Path.{◌≡◌}
use Prim.Native.Nat.{◌+◌, ◌-◌}
use Rattle.model.specs.Zone.{offset_at}
use Rattle.laws_zone.specs.Runs.{Past}
use Rattle.zone_tzif.specs.Opened.{count_at}
use Rattle.zone.specs.Zones.{zone_is}
use Rattle.zone.proofs.read_after.Given as goal

abbrev pub invariant-loop-u : goal.invariant-loop-u
invariant-loop-u l = Past (offset_at (zone_is l.f l.z)) l.x l.u l.d × (l.k ≡ count_at l.f l.z.table l.u)

abbrev pub decreases-loop-u : goal.decreases-loop-u
decreases-loop-u l = l.last + 1 - l.u
