-- `schedule::between_in` meets its contract.
use Rattle.std.proofs.Common.{inl, inr, ap, ◌∙◌}
use Rattle.model.specs.Answer.{gives}
use Rattle.refusal.specs.Exits.{taken, left}
use Rattle.instant_signed.specs.InstantLaws.{instant-no, instant-yes}
use Rattle.schedule.proofs.Numbers.{not_late}
use Rattle.schedule.proofs.Replies.{no_start, no_end, ordered, time-fits, time-given}
use Rattle.schedule.proofs.between_in.Goals.{then-minus, else-minus}
use Rattle.schedule.proofs.between_in.Goals as goal

pub returns-in_err-a : goal.returns-in_err-a
returns-in_err-a c =
    let x = left c.instant_of.result _ c.in_err-a.field-0.0 c.from_residual.result c.from_residual.ensures.1 c.in_err-a.ensures.value in
    rw x.1 (no_start _ _ _ _ _ (instant-no _ _ c.ranges.a_sec c.ranges.a_ns c.instant_of.ensures x.0))

pub returns-in_err-b : goal.returns-in_err-b
returns-in_err-b c =
    let a = instant-yes _ _ c.ranges.a_sec c.ranges.a_ns c.instant_of.ensures (taken c.instant_of.result _ c.in_ok-a.ensures.value) in
    let x = left c.instant_of-2.result _ c.in_err-b.field-0.0 c.from_residual-in_err-b.result c.from_residual-in_err-b.ensures.1 c.in_err-b.ensures.value in
    rw x.1 (no_end _ _ _ _ _ _ a.means (instant-no _ _ c.ranges.b_sec c.ranges.b_ns c.instant_of-2.ensures x.0))

pub between-requires : goal.between-requires
between-requires c =
    let a = instant-yes _ _ c.ranges.a_sec c.ranges.a_ns c.instant_of.ensures (taken c.instant_of.result _ c.in_ok-a.ensures.value) in
    let b = instant-yes _ _ c.ranges.b_sec c.ranges.b_ns c.instant_of-2.ensures (taken c.instant_of-2.result _ c.in_ok-b.ensures.value) in
    let o = ordered a.in-range b.in-range c.precedes-minus.ensures (λ t. t) (λ t. t) (elim c.if-minus.branch [ then-minus w ↦ inl (w.if-minus.true, w.lo-is, w.hi-is) | else-minus w ↦ inr (w.if-minus.false, w.lo-is, w.hi-is) ]) in
    (c.requires, o.interval)

pub time_answer-requires : goal.time_answer-requires
time_answer-requires c =
    let a = instant-yes _ _ c.ranges.a_sec c.ranges.a_ns c.instant_of.ensures (taken c.instant_of.result _ c.in_ok-a.ensures.value) in
    let b = instant-yes _ _ c.ranges.b_sec c.ranges.b_ns c.instant_of-2.ensures (taken c.instant_of-2.result _ c.in_ok-b.ensures.value) in
    let o = ordered a.in-range b.in-range c.precedes-minus.ensures (λ t. t) (λ t. t) (elim c.if-minus.branch [ then-minus w ↦ inl (w.if-minus.true, w.lo-is, w.hi-is) | else-minus w ↦ inr (w.if-minus.false, w.lo-is, w.hi-is) ]) in
    (time-fits _ c.between.result.time _ _ o.interval.order (not_late _ o.interval.end) c.between.ensures.0, c.between.ensures.2)

pub returns : goal.returns
returns c =
    let a = instant-yes _ _ c.ranges.a_sec c.ranges.a_ns c.instant_of.ensures (taken c.instant_of.result _ c.in_ok-a.ensures.value) in
    let b = instant-yes _ _ c.ranges.b_sec c.ranges.b_ns c.instant_of-2.ensures (taken c.instant_of-2.result _ c.in_ok-b.ensures.value) in
    let o = ordered a.in-range b.in-range c.precedes-minus.ensures (λ t. t) (λ t. t) (elim c.if-minus.branch [ then-minus w ↦ inl (w.if-minus.true, w.lo-is, w.hi-is) | else-minus w ↦ inr (w.if-minus.false, w.lo-is, w.hi-is) ]) in
    time-given _ _ _ _ _ _ a.means _ b.means _ _ _ _ _ _ o.low o.high c.precedes-minus.ensures c.between.ensures.0 (ap gives c.time_answer.ensures.0) (c.time_answer.ensures.1 ∙ c.between.ensures.1)
