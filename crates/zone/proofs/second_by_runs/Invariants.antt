-- `zone::second_by_runs` meets its contract.
use mathlib.Core.Path.{◌≡◌}
use Prim.Native.Nat.{◌+◌, ◌-◌}
use Rattle.model.specs.Zone.{offset_at}
use Rattle.zone_tzif.specs.Opened.{count_at}
use Rattle.zone.specs.Zones.{zone_is}
use Rattle.zone.proofs.Steps.{At}
use Rattle.zone.proofs.second_by_runs.Given as goal

abbrev pub invariant-loop-until : goal.invariant-loop-until
invariant-loop-until l = At (offset_at (zone_is l.f l.z)) l.x l.offset l.until × (l.k ≡ count_at l.f l.z.table l.until)

abbrev pub decreases-loop-until : goal.decreases-loop-until
decreases-loop-until l = l.x + 1 - l.until
