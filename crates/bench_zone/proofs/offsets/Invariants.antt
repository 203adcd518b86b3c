-- `offsets` fills in place: those before x are done.
use Rattle.zone.specs.Zones.{zone_is}
use Rattle.bench_zone.specs.Each.{offset_asked}
use Rattle.laws_base.specs.Mapped.{MappedUpTo}
use Rattle.bench_zone.proofs.offsets.Given as goal

abbrev pub invariant-loop-x : goal.invariant-loop-x
invariant-loop-x l = MappedUpTo (offset_asked (zone_is l.f l.z)) l.initial.us l.us l.x-index
