-- `schedule::move_in` meets its contract.
use mathlib.Core.Path.{sym, ◌∙◌}
use borrow.Author.Tests.{not-true, not-false}
use Rattle.refusal.specs.Exits.{taken, left}
use Rattle.schedule.proofs.Replies.{no-instant, no-duration, this-way, other_way, no_way}
use Rattle.schedule.proofs.Numbers.{span-no, span-yes, span-most, negated-yes, negated-no}
use Rattle.instant_signed.specs.InstantLaws.{instant-no, instant-yes}
use Rattle.schedule.proofs.move_in.Goals as goal

pub returns-in_err-t : goal.returns-in_err-t
returns-in_err-t c =
    let x = left c.instant_of.result _ c.in_err-t.field-0.0 c.from_residual.result c.from_residual.ensures.1 c.in_err-t.ensures.value in
    rw x.1 (no-instant c.args.back _ _ _ _ _ (instant-no _ _ c.ranges.t_sec c.ranges.t_ns c.instant_of.ensures x.0))

pub returns-in_err-d : goal.returns-in_err-d
returns-in_err-d c =
    let t = instant-yes _ _ c.ranges.t_sec c.ranges.t_ns c.instant_of.ensures (taken c.instant_of.result _ c.in_ok-t.ensures.value) in
    let x = left c.duration_of.result _ c.in_err-d.field-0.0 c.from_residual-in_err-d.result c.from_residual-in_err-d.ensures.1 c.in_err-d.ensures.value in
    rw x.1 (no-duration c.args.back _ _ _ _ _ _ t.means (span-no _ _ c.ranges.d_sec c.ranges.d_ns c.duration_of.ensures x.0))

pub search-requires : goal.search-requires
search-requires c =
    let t = instant-yes _ _ c.ranges.t_sec c.ranges.t_ns c.instant_of.ensures (taken c.instant_of.result _ c.in_ok-t.ensures.value) in
    let d = span-yes _ _ c.ranges.d_sec c.ranges.d_ns c.duration_of.ensures (taken c.duration_of.result _ c.in_ok-d.ensures.value) in
    (c.requires, t.in-range, span-most _ _ d.rest (d.short (not-true _ c.if-not-d.true)), d.rest)

pub returns-then-not-d : goal.returns-then-not-d
returns-then-not-d c =
    let t = instant-yes _ _ c.ranges.t_sec c.ranges.t_ns c.instant_of.ensures (taken c.instant_of.result _ c.in_ok-t.ensures.value) in
    let d = span-yes _ _ c.ranges.d_sec c.ranges.d_ns c.duration_of.ensures (taken c.duration_of.result _ c.in_ok-d.ensures.value) in
    this-way c.args.back _ _ _ _ _ _ t.means _ _ d.means (not-true _ c.if-not-d.true) c.search.ensures

pub returns-then-is_err : goal.returns-then-is_err
returns-then-is_err c =
    let t = instant-yes _ _ c.ranges.t_sec c.ranges.t_ns c.instant_of.ensures (taken c.instant_of.result _ c.in_ok-t.ensures.value) in
    let d = span-yes _ _ c.ranges.d_sec c.ranges.d_ns c.duration_of.ensures (taken c.duration_of.result _ c.in_ok-d.ensures.value) in
    let n = negated-no _ _ c.ranges.d_sec c.ranges.d_ns d (not-false _ c.if-not-d.false) c.negate.ensures (sym c.is_err.ensures.value ∙ c.if-is_err.true) in
    rw c.into.ensures (no_way c.args.back _ _ _ _ _ _ t.means _ _ d.means (not-false _ c.if-not-d.false) n)

pub search-requires-2 : goal.search-requires-2
search-requires-2 c =
    let t = instant-yes _ _ c.ranges.t_sec c.ranges.t_ns c.instant_of.ensures (taken c.instant_of.result _ c.in_ok-t.ensures.value) in
    let d = span-yes _ _ c.ranges.d_sec c.ranges.d_ns c.duration_of.ensures (taken c.duration_of.result _ c.in_ok-d.ensures.value) in
    let n = negated-yes _ _ c.ranges.d_sec c.ranges.d_ns d (not-false _ c.if-not-d.false) c.negate.ensures (sym c.is_err.ensures.value ∙ c.if-is_err.false) in
    (c.requires, t.in-range, n.1, d.rest)

pub returns : goal.returns
returns c =
    let t = instant-yes _ _ c.ranges.t_sec c.ranges.t_ns c.instant_of.ensures (taken c.instant_of.result _ c.in_ok-t.ensures.value) in
    let d = span-yes _ _ c.ranges.d_sec c.ranges.d_ns c.duration_of.ensures (taken c.duration_of.result _ c.in_ok-d.ensures.value) in
    let n = negated-yes _ _ c.ranges.d_sec c.ranges.d_ns d (not-false _ c.if-not-d.false) c.negate.ensures (sym c.is_err.ensures.value ∙ c.if-is_err.false) in
    other_way c.args.back _ _ _ _ _ _ t.means _ _ d.means (not-false _ c.if-not-d.false) n.0 c.search-2.ensures
