-- `zone_steady::room_back` meets its contract: the loop keeps a run back from hi.
use Rattle.zone_steady.specs.Steady.{Back}
use Rattle.zone.specs.Zones.{zone_is}
use Rattle.model.specs.Zone.{offset_at}
use Rattle.zone_steady.proofs.room_back.Given as goal

abbrev pub invariant-loop-since : goal.invariant-loop-since
invariant-loop-since l = Back (offset_at (zone_is l.f l.z)) l.hi l.since

abbrev pub decreases-loop-since : goal.decreases-loop-since
decreases-loop-since l = l.since
