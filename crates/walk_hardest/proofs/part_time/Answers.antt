-- `walk_hardest::part_time` meets its contract.
use mathlib.Core.Path.{◌∙◌}
use native.Mathlib.Omega.{arith}
use Rattle.instant.specs.Instant.{nanos}
use Rattle.rule.specs.Rules.{schedule_is}
use Rattle.laws_hardest.specs.Logs.{log-anywhere}
use Rattle.walk_hardest.proofs.Parts.{part_none, part-empty, tail-part, part-some}
use Rattle.walk_hardest.proofs.part_time.Goals as goal

pub returns-then-k-count : goal.returns-then-k-count
returns-then-k-count c = part_none (schedule_is (c.args.book.now) (c.args.pack.now) c.args.s) (nanos c.args.t) (c.args.log.now) c.args.width c.args.i c.args.k (let g = c.count.ensures in let h = c.if-k-count.true in omega arith)

pub run_at-run-requires : goal.run_at-run-requires
run_at-run-requires c = (log-anywhere _ _ c.requires.0.1.fits, (let g = c.count.ensures in let h = c.if-k-count.false in let t = c.requires.1.to in omega arith))

pub window_end-to-requires : goal.window_end-to-requires
window_end-to-requires c = (log-anywhere _ _ c.requires.0.1.fits, c.requires.0.1.width, c.requires.1.inside)

pub returns-then-to-run : goal.returns-then-to-run
returns-then-to-run c = part-empty (schedule_is (c.args.book.now) (c.args.pack.now) c.args.s) (nanos c.args.t) (c.args.log.now) c.args.width c.args.i c.args.k (let e = c.window_end-to.ensures in let f = c.run_at-run.ensures.0 in let h = c.if-to-run.true in omega arith)

pub time_of-requires : goal.time_of-requires
time_of-requires c = (c.requires.0.0, tail-part c.requires.0.1 c.requires.1 (let g = c.count.ensures in let h = c.if-k-count.false in let t = c.requires.1.to in omega arith) c.run_at-run.ensures.0 c.window_end-to.ensures c.if-to-run.false)

pub returns : goal.returns
returns c = c.time_of.ensures ∙ part-some (schedule_is (c.args.book.now) (c.args.pack.now) c.args.s) (nanos c.args.t) (c.args.log.now) c.args.width c.args.i c.args.k (let g = c.count.ensures in let h = c.if-k-count.false in let t = c.requires.1.to in omega arith) c.run_at-run.ensures.0 c.window_end-to.ensures
