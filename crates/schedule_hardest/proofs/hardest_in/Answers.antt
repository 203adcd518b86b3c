-- `schedule_hardest::hardest_in` meets its contract.
use native.Mathlib.Omega.{arith}
use mathlib.Core.Path.{sym, ◌∙◌, ap}
use lib.IntN.{nat_abs}
use mir.Facts.{to_z-of_z}
use borrow.Author.Tests.{not-true, not-false}
use Rattle.walk_hardest.specs.Held.{hardest_in}
use Rattle.model.specs.Hardest.{is_width}
use Rattle.instant_signed.specs.Signed.{by_bits}
use Rattle.instant_signed.specs.InstantLaws.{instant-no, instant-yes}
use Rattle.refusal.specs.Asked.{converted, none_asked, some_asked, refused_as}
use Rattle.schedule_hardest.proofs.Answers.{no-instant, no-log, no-width, stretch-given, width_read, asked, start-inside}
use Rattle.schedule_hardest.proofs.hardest_in.Goals as goal

pub returns-in_err-t : goal.returns-in_err-t
returns-in_err-t c = refused_as _ _ c.ok_or.ensures.value _ _ c.in_err-t.was c.from_residual.ensures.1 ∙ no-instant _ _ _ _ _ (instant-no _ _ c.ranges.t_sec c.ranges.t_ns c.instant_of.ensures (none_asked _ _ c.ok_or.ensures.value c.in_err-t.was))

pub is_log-is_log-requires : goal.is_log-is_log-requires
is_log-is_log-requires c = (instant-yes _ _ c.ranges.t_sec c.ranges.t_ns c.instant_of.ensures (some_asked _ _ c.ok_or.ensures.value c.in_ok-t.was)).in-range

pub returns-then-not-is_log : goal.returns-then-not-is_log
returns-then-not-is_log c = converted c.into.ensures ∙ no-log _ _ _ _ _ _ (instant-yes _ _ c.ranges.t_sec c.ranges.t_ns c.instant_of.ensures (some_asked _ _ c.ok_or.ensures.value c.in_ok-t.was)).means (sym c.is_log-is_log.ensures ∙ not-true _ c.if-not-is_log.true-raw)

pub returns-then-not-is_width : goal.returns-then-not-is_width
returns-then-not-is_width c = converted c.into-then-not-is_width.ensures ∙ no-width _ _ _ _ _ _ (instant-yes _ _ c.ranges.t_sec c.ranges.t_ns c.instant_of.ensures (some_asked _ _ c.ok_or.ensures.value c.in_ok-t.was)).means (sym c.is_log-is_log.ensures ∙ (cc)) (sym (by_bits is_width c.ranges.width c.is_width-is_width.ensures) ∙ (cc))

pub unsigned-seconds-requires : goal.unsigned-seconds-requires
unsigned-seconds-requires c = rw (to_z-of_z c.ranges.width) (width_read _ (sym (by_bits is_width c.ranges.width c.is_width-is_width.ensures) ∙ not-false _ c.if-not-is_width.false-raw)).0

pub hardest-requires : goal.hardest-requires
hardest-requires c = (c.requires, asked _ (instant-yes _ _ c.ranges.t_sec c.ranges.t_ns c.instant_of.ensures (some_asked _ _ c.ok_or.ensures.value c.in_ok-t.was)).in-range _ (sym c.is_log-is_log.ensures ∙ not-false _ c.if-not-is_log.false-raw) c.args.width (sym (by_bits is_width c.ranges.width c.is_width-is_width.ensures) ∙ not-false _ c.if-not-is_width.false-raw) (by_bits nat_abs c.ranges.width c.unsigned-seconds.ensures))

pub stretch_given-requires : goal.stretch_given-requires
stretch_given-requires c = ((instant-yes _ _ c.ranges.t_sec c.ranges.t_ns c.instant_of.ensures (some_asked _ _ c.ok_or.ensures.value c.in_ok-t.was)).in-range, start-inside _ (instant-yes _ _ c.ranges.t_sec c.ranges.t_ns c.instant_of.ensures (some_asked _ _ c.ok_or.ensures.value c.in_ok-t.was)).in-range _ (sym c.is_log-is_log.ensures ∙ not-false _ c.if-not-is_log.false-raw) _ _ _ c.hardest.ensures)

pub returns : goal.returns
returns c = stretch-given _ _ _ _ _ _ (instant-yes _ _ c.ranges.t_sec c.ranges.t_ns c.instant_of.ensures (some_asked _ _ c.ok_or.ensures.value c.in_ok-t.was)).means (sym c.is_log-is_log.ensures ∙ not-false _ c.if-not-is_log.false-raw) (sym (by_bits is_width c.ranges.width c.is_width-is_width.ensures) ∙ not-false _ c.if-not-is_width.false-raw) _ (c.hardest.ensures ∙ ap (hardest_in _ _ _) (by_bits nat_abs c.ranges.width c.unsigned-seconds.ensures)) c.stretch_given.ensures
