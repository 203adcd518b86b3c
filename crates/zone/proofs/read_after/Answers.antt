use mathlib.Core.Path.{◌∙◌}
use native.Mathlib.Omega.{arith}
use Rattle.laws_zone.specs.Runs.{past-done}
use Rattle.zone.proofs.Steps.{after-found, after_next}
use Rattle.zone.proofs.read_after.Goals as goal

pub returns-then-in_run : goal.returns-then-in_run
returns-then-in_run c = after-found c.loop-u.invariant.0 c.run_after-r.ensures.0.0 c.run_after-r.ensures.0.1 c.in_run.ensures c.if-in_run.true

pub loop-u-preserved : goal.loop-u-preserved
loop-u-preserved c = (after_next c.loop-u.invariant.0 c.run_after-r.ensures.0.0 c.run_after-r.ensures.0.1 c.in_run.ensures c.if-in_run.false, c.count_on-k.ensures ∙ c.run_after-r.ensures.1)

pub returns : goal.returns
returns c = past-done _ _ _ c.requires.0.bounds.least c.loop-u.invariant.0 (omega arith)
