-- `schedule_periods::marked_period_in` meets its contract: by what is walked to and written, and the marks.
use Rattle.std.proofs.Common.{◌∙◌, to_z-of_z}
use Rattle.refusal.specs.Asked.{passed_on}
use Rattle.schedule_periods.proofs.Answers.{marked-walked, marked-given}
use Rattle.schedule_periods.proofs.marked_period_in.Goals as goal

pub returns-in_err-x : goal.returns-in_err-x
returns-in_err-x c = passed_on _ _ _ c.from_residual.ensures.1 ∙ marked-walked _ _ _ _ (rw (to_z-of_z c.ranges.sec, to_z-of_z c.ranges.ns) at c.in_err-x.ensures.means)

pub returns-then-is_plain : goal.returns-then-is_plain
returns-then-is_plain c = let k = c.is_plain.ensures c.if-is_plain.true in marked-given _ _ _ _ (rw (to_z-of_z c.ranges.sec, to_z-of_z c.ranges.ns) at c.in_ok-x.ensures.means) c.period_at-period.ensures (c.plain_marks-marks.ensures.0 ∙ k.0) (c.plain_marks-marks.ensures.1 ∙ k.1)

pub returns : goal.returns
returns c = marked-given _ _ _ _ (rw (to_z-of_z c.ranges.sec, to_z-of_z c.ranges.ns) at c.in_ok-x.ensures.means) c.period_at-period.ensures c.period_marks-marks.ensures.0 c.period_marks-marks.ensures.1
