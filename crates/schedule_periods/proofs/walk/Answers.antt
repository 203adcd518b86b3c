-- `schedule_periods::walk` meets its contract: by what is read and walked to.
use Rattle.std.proofs.Common.{◌∙◌}
use Rattle.std.proofs.lemmas.Result.{IfOk-from_err}
use Rattle.instant_signed.specs.InstantLaws.{instant-no, instant-yes}
use Rattle.refusal.specs.Asked.{none_asked, some_asked, refused_as, passed_on}
use Rattle.schedule_periods.proofs.Answers.{walk-out, walk-ends, search-is}
use Rattle.schedule_periods.proofs.walk.Goals as goal

pub returns-in_err-from : goal.returns-in_err-from
returns-in_err-from c = record { means = refused_as _ _ c.ok_or.ensures.value _ _ c.in_err-from.was c.from_residual.ensures.1 ∙ walk-out _ _ _ _ (instant-no _ _ c.ranges.sec c.ranges.ns c.instant_of.ensures (none_asked _ _ c.ok_or.ensures.value c.in_err-from.was)); fits = IfOk-from_err _ _ c.from_residual.ensures.0 }

pub period_walk-requires : goal.period_walk-requires
period_walk-requires c = (c.requires, (instant-yes _ _ c.ranges.sec c.ranges.ns c.instant_of.ensures (some_asked _ _ c.ok_or.ensures.value c.in_ok-from.was)).in-range)

pub returns-in_err-p : goal.returns-in_err-p
returns-in_err-p c = record { means = passed_on _ _ _ c.from_residual-in_err-p.ensures.1 ∙ search-is _ _ ∙ walk-ends _ _ _ _ (instant-yes _ _ c.ranges.sec c.ranges.ns c.instant_of.ensures (some_asked _ _ c.ok_or.ensures.value c.in_ok-from.was)).means c.in_err-p.ensures.0; fits = IfOk-from_err _ _ c.from_residual-in_err-p.ensures.0 }

pub returns : goal.returns
returns c = record { means = walk-ends _ _ _ _ (instant-yes _ _ c.ranges.sec c.ranges.ns c.instant_of.ensures (some_asked _ _ c.ok_or.ensures.value c.in_ok-from.was)).means c.in_ok-p.ensures.0; fits = ((instant-yes _ _ c.ranges.sec c.ranges.ns c.instant_of.ensures (some_asked _ _ c.ok_or.ensures.value c.in_ok-from.was)).in-range, c.in_ok-p.ensures.1) }
