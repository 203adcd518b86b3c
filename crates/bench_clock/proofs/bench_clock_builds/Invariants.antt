-- `bench_clock_builds` fills in place: those before x are done.
use Rattle.laws_base.specs.Mapped.{MappedUpTo}
use Rattle.bench_clock.specs.Asked.{limit_of}
use Rattle.bench_clock.proofs.bench_clock_builds.Given as goal

abbrev pub invariant-loop-x : goal.invariant-loop-x
invariant-loop-x l = MappedUpTo (limit_of l.book l.pack) l.initial.xs l.xs l.x-index
