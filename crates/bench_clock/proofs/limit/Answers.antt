-- `limit` is that of the schedule, or the refusal.
use Rattle.std.proofs.Common.{◌∙◌}
use Rattle.bench_clock.proofs.Steps.{limit_is, limit-refused}
use Rattle.bench_clock.proofs.limit.Goals as goal

pub returns-in-Ok : goal.returns-in-Ok
returns-in-Ok c = limit_is _ _ _ _ c.part.ensures _ c.in-Ok.ensures.means

pub returns-in-Err : goal.returns-in-Err
returns-in-Err c = c.from.ensures ∙ c.number.ensures ∙ limit-refused _ _ _ _ c.part.ensures _ c.in-Err.ensures.means
