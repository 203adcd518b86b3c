-- `period` tells what `marked_period_in` answers, without the marks.
use Rattle.std.proofs.Common.{◌∙◌, rules}
use mir.Facts.{to_z-of_z}
use Rattle.refusal.specs.Asked.{passed_on}
use Rattle.bench_clock.specs.Asked.{numbers_are}
use Rattle.bench_clock.proofs.Steps.{period-given, period-refused}
use Rattle.bench_clock.proofs.period.Goals as goal

pub returns-in_err-x : goal.returns-in_err-x
returns-in_err-x c = passed_on numbers_are _ _ c.from_residual.ensures.1 ∙ period-refused _ _ _ _ (rw (to_z-of_z c.ranges.a, to_z-of_z c.ranges.b) at c.in_err-x.ensures)

pub returns : goal.returns
returns c = let h = period-given _ _ _ _ _ (rw (to_z-of_z c.ranges.a, to_z-of_z c.ranges.b) at c.in_ok-x.ensures) in search rules
