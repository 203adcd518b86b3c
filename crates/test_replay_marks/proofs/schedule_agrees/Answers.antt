-- `schedule_agrees`: two instants that were read lie in the range.
use Rattle.std.proofs.Common.{sym, ◌∙◌}
use Rattle.instant_signed.specs.InstantLaws.{instant-read}
use Rattle.test_replay_marks.proofs.schedule_agrees.Goals as goal

pub is_window-requires : goal.is_window-requires
is_window-requires c = ((instant-read _ _ _ (sym c.instant_of.ensures ∙ c.in-Some.is)).in-range, (instant-read _ _ _ (sym c.instant_of-2.ensures ∙ c.in-Some-instant_of.is)).in-range)
