-- `week` asks for a window where it may.
use mathlib.Core.Path.{◌∙◌}
use native.Mathlib.Omega.{arith}
use Rattle.window_week.proofs.Whole.{total-fits, total-is}
use Rattle.bench_week.proofs.Steps.{week-early, week-late, week-is}
use Rattle.bench_week.proofs.week.Goals as goal

pub returns-then-x-lt-FIRST : goal.returns-then-x-lt-FIRST
returns-then-x-lt-FIRST c = week-early _ (omega arith)

pub returns-then-x : goal.returns-then-x
returns-then-x c = week-late _ (omega arith) (omega arith)

pub total-requires : goal.total-requires
total-requires c = let f = total-fits _ _ _ (omega arith) (omega arith) _ c.working_in-n.ensures.0 in let u = c.requires.works in let v = c.requires.pauses in let w = c.requires.closings in (omega (arith, c.working_in-n.ensures.1), f.0, f.1)

pub returns : goal.returns
returns c = week-is _ (omega arith) (omega arith) (c.total.ensures ∙ total-is _ _ _ _ c.working_in-n.ensures.0)
