use mathlib.Core.Path.{◌∙◌}
use native.Mathlib.Omega.{arith}
use Rattle.zone.proofs.Steps.{reads-found, reads-next}
use Rattle.zone.proofs.reads_from.Goals as goal

pub overflow_sub-latest : goal.overflow_sub-latest
overflow_sub-latest c = omega (arith, c.requires.0.bounds.least 0, c.requires.0.bounds.greatest 0, c.requires.0.bounds.most, c.requires.0.from)

pub returns-then-in_run : goal.returns-then-in_run
returns-then-in_run c = reads-found c.loop-u.invariant.0 c.run_after-run.ensures.0.0 c.run_after-run.ensures.0.1 c.in_run.ensures c.if-in_run.true

pub loop-u-preserved : goal.loop-u-preserved
loop-u-preserved c = (omega (arith, c.run_after-run.ensures.0.1.on, c.loop-u.invariant.0), reads-next c.loop-u.invariant.0 c.run_after-run.ensures.0.0 c.run_after-run.ensures.0.1 c.in_run.ensures c.loop-u.invariant.1 c.if-in_run.false, c.count_on-k.ensures ∙ c.run_after-run.ensures.1)
