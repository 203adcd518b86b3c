-- `answer_all` answers one question after the other.
use Rattle.std.proofs.Common.{◌≡◌, ◌*◌, ◌-◌, ◌/◌, length}
use Rattle.rule.specs.Rules.{schedule_is}
use Rattle.bench_clock.specs.Asked.{groups_from}
use Rattle.bench_clock.proofs.answer_all.Given as goal

abbrev pub invariant-loop-k : goal.invariant-loop-k
invariant-loop-k l = (groups_from l.kind (schedule_is l.book l.pack l.s) (length l.initial.xs / 4 - l.k) (4 * l.k) l.xs ≡ groups_from l.kind (schedule_is l.book l.pack l.s) (length l.initial.xs / 4) 0 l.initial.xs) × (length l.xs ≡ length l.initial.xs)
