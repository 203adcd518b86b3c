-- `schedule_periods::period_in` meets its contract: by what is walked to and written.
use Rattle.std.proofs.Common.{ap, ◌∙◌, to_z-of_z}
use Rattle.model.specs.Answer.{gives}
use Rattle.refusal.specs.Asked.{passed_on}
use Rattle.schedule_periods.specs.Replies.{period_given}
use Rattle.schedule_periods.proofs.Answers.{call-walked}
use Rattle.schedule_periods.proofs.period_in.Goals as goal

pub returns-in_err-x : goal.returns-in_err-x
returns-in_err-x c = passed_on _ _ _ c.from_residual.ensures.1 ∙ call-walked _ _ _ _ (rw (to_z-of_z c.ranges.sec, to_z-of_z c.ranges.ns) at c.in_err-x.ensures.means)

pub returns : goal.returns
returns c = ap (λ l. gives (period_given l)) c.period_at.ensures ∙ call-walked _ _ _ _ (rw (to_z-of_z c.ranges.sec, to_z-of_z c.ranges.ns) at c.in_ok-x.ensures.means)
