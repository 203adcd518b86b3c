use mathlib.Core.Path.{◌∙◌}
use native.Mathlib.Omega.{arith}
use Rattle.zone.proofs.Steps.{at-found, at_next, at-jump}
use Rattle.zone.proofs.second_by_runs.Goals as goal

pub loop-until-preserved : goal.loop-until-preserved
loop-until-preserved c = (at_next c.loop-until.invariant.0 (omega arith) c.run_after-q.ensures.0.0 c.run_after-q.ensures.0.1 (omega arith), c.count_on-k-then-until-o.ensures ∙ c.run_after-q.ensures.1)

pub read_after-requires : goal.read_after-requires
read_after-requires c = (c.requires, at-jump c.loop-until.invariant.0 (omega arith) c.run_after-q.ensures.0.0 (omega arith), c.loop-until.invariant.1)

pub returns : goal.returns
returns c = at-found c.loop-until.invariant.0 (omega arith)
