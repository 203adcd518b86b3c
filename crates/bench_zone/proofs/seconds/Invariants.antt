-- `seconds` fills in place: those before x are done.
use Rattle.zone.specs.Zones.{zone_is}
use Rattle.bench_zone.specs.Each.{second_in}
use Rattle.laws_base.specs.Mapped.{MappedUpTo}
use Rattle.bench_zone.proofs.seconds.Given as goal

abbrev pub invariant-loop-x : goal.invariant-loop-x
invariant-loop-x l = MappedUpTo (second_in (zone_is l.f l.z)) l.initial.xs l.xs l.x-index
