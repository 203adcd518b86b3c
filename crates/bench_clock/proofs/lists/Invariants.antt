-- `lists` makes one listing after the other.
use Rattle.std.proofs.Common.{◌≡◌, ◌-◌, length}
use Rattle.rule.specs.Rules.{schedule_is}
use Rattle.bench_clock.specs.Asked.{listed_often}
use Rattle.bench_clock.proofs.lists.Given as goal

abbrev pub invariant-loop-k : goal.invariant-loop-k
invariant-loop-k l = (listed_often (l.n - l.k) (schedule_is l.book l.pack l.s) l.a l.b l.c l.d l.out ≡ listed_often l.n (schedule_is l.book l.pack l.s) l.a l.b l.c l.d l.initial.out) × (length l.out ≡ length l.initial.out)
