-- `zone::reads_from` meets its contract.
use mathlib.Core.Path.{◌≡◌}
use Prim.Native.Nat.{◌≤◌, ◌+◌, ◌-◌}
use Rattle.model.specs.Zone.{offset_at}
use Rattle.zone_tzif.specs.Opened.{count_at}
use Rattle.zone.specs.Zones.{zone_is}
use Rattle.zone.proofs.Steps.{NoneFrom}
use Rattle.zone.proofs.reads_from.Given as goal

abbrev pub invariant-loop-u : goal.invariant-loop-u
invariant-loop-u l = (l.from ≤ l.u) × NoneFrom (offset_at (zone_is l.f l.z)) l.x l.from l.u × (l.k ≡ count_at l.f l.z.table l.u)

abbrev pub decreases-loop-u : goal.decreases-loop-u
decreases-loop-u l = l.latest + 1 - l.u
