-- `weeks` fills in place: the first of them are done.
use Rattle.rule.specs.Rules.{schedule_is}
use Rattle.bench_week.specs.Weeks.{week_in}
use Rattle.laws_base.specs.Mapped.{MappedUpTo}
use Rattle.bench_week.proofs.weeks.Given as goal

abbrev pub invariant-loop-x : goal.invariant-loop-x
invariant-loop-x l = MappedUpTo (week_in (schedule_is l.book l.pack l.s)) l.initial.xs l.xs l.x-index
