use native.Mathlib.Omega.{arith}
use Rattle.rule.specs.Rules.{schedule_is}
use Rattle.instant.specs.Instant.{nanos}
use Rattle.walk_hardest.proofs.Holding.{known_more, known-all}
use Rattle.walk_hardest.proofs.whole_times.Goals as goal

pub loop-j-init : goal.loop-j-init
loop-j-init c = λ j h. absurd (omega arith)

pub whole_time-requires : goal.whole_time-requires
whole_time-requires c = (c.requires.0, (let h = c.loop-j-test.true in let g = c.count-j-end.ensures in omega arith))

pub bounds-whole-j : goal.bounds-whole-j
bounds-whole-j c = let h = c.loop-j-test.true in let g = c.count-j-end.ensures in let r = c.requires.1 in let l = c.loop-j.auto.whole in omega arith

pub loop-j-preserved : goal.loop-j-preserved
loop-j-preserved c = known_more (schedule_is (c.args.book.now) (c.args.pack.now) c.args.s) (nanos c.args.t) (c.args.log.now) c.args.width c.loop-j.whole c.loop-j.j c.whole_time.result c.loop-j.invariant (let h = c.loop-j-test.true in let g = c.count-j-end.ensures in let r = c.requires.1 in let l = c.loop-j.auto.whole in omega arith) c.whole_time.ensures

pub returns : goal.returns
returns c = known-all _ _ _ _ _ _ c.loop-j.invariant (let h = c.loop-j-test.false in let g = c.count-j-end.ensures in omega arith) (let r = c.requires.1 in let l = c.loop-j.auto.whole in omega arith)
