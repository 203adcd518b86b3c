-- `schedule_listing::list_in` meets its contract.
use Rattle.std.proofs.Common.{◌∙◌}
use Rattle.instant_signed.specs.InstantLaws.{instant-no, instant-yes}
use Rattle.refusal.specs.Asked.{converted, none_asked, some_asked, refused_as}
use Rattle.schedule_listing.proofs.Answers.{first-refused, second-refused, too_few, enough, written}
use Rattle.schedule_listing.proofs.list_in.Goals as goal

pub returns-in_err-a : goal.returns-in_err-a
returns-in_err-a c = let k = first-refused _ _ _ _ _ _ (instant-no _ _ c.ranges.a_sec c.ranges.a_ns c.instant_of.ensures (none_asked _ _ c.ok_or.ensures.value c.in_err-a.was)) in (refused_as _ _ c.ok_or.ensures.value _ _ c.in_err-a.was c.from_residual.ensures.1 ∙ k.0, k.1)

pub returns-in_err-b : goal.returns-in_err-b
returns-in_err-b c = let k = second-refused _ _ _ _ _ _ _ 0 (instant-yes _ _ c.ranges.a_sec c.ranges.a_ns c.instant_of.ensures (some_asked _ _ c.ok_or.ensures.value c.in_ok-a.was)).means (instant-no _ _ c.ranges.b_sec c.ranges.b_ns c.instant_of-2.ensures (none_asked _ _ c.ok_or-2.ensures.value c.in_err-b.was)) in (refused_as _ _ c.ok_or-2.ensures.value _ _ c.in_err-b.was c.from_residual-in_err-b.ensures.1 ∙ k.0, k.1)

pub has_room-requires : goal.has_room-requires
has_room-requires c = (c.requires, (instant-yes _ _ c.ranges.a_sec c.ranges.a_ns c.instant_of.ensures (some_asked _ _ c.ok_or.ensures.value c.in_ok-a.was)).in-range, (instant-yes _ _ c.ranges.b_sec c.ranges.b_ns c.instant_of-2.ensures (some_asked _ _ c.ok_or-2.ensures.value c.in_ok-b.was)).in-range)

pub returns-then-not-has_room : goal.returns-then-not-has_room
returns-then-not-has_room c = let k = too_few _ _ _ _ _ _ _ _ (instant-yes _ _ c.ranges.a_sec c.ranges.a_ns c.instant_of.ensures (some_asked _ _ c.ok_or.ensures.value c.in_ok-a.was)).means (instant-yes _ _ c.ranges.b_sec c.ranges.b_ns c.instant_of-2.ensures (some_asked _ _ c.ok_or-2.ensures.value c.in_ok-b.was)).means c.has_room.ensures.0 _ c.has_room.ensures.1 c.if-not-has_room.true in (converted c.into.ensures ∙ k.0, k.1)

pub walk-requires : goal.walk-requires
walk-requires c = record { fits = c.requires; start = (instant-yes _ _ c.ranges.a_sec c.ranges.a_ns c.instant_of.ensures (some_asked _ _ c.ok_or.ensures.value c.in_ok-a.was)).in-range; end = (instant-yes _ _ c.ranges.b_sec c.ranges.b_ns c.instant_of-2.ensures (some_asked _ _ c.ok_or-2.ensures.value c.in_ok-b.was)).in-range; space = λ f. enough _ _ _ _ _ _ _ _ (instant-yes _ _ c.ranges.a_sec c.ranges.a_ns c.instant_of.ensures (some_asked _ _ c.ok_or.ensures.value c.in_ok-a.was)).means (instant-yes _ _ c.ranges.b_sec c.ranges.b_ns c.instant_of-2.ensures (some_asked _ _ c.ok_or-2.ensures.value c.in_ok-b.was)).means c.has_room.ensures.0 _ c.has_room.ensures.1 c.if-not-has_room.false }

pub returns : goal.returns
returns c = written _ _ _ _ _ _ _ _ (instant-yes _ _ c.ranges.a_sec c.ranges.a_ns c.instant_of.ensures (some_asked _ _ c.ok_or.ensures.value c.in_ok-a.was)).means (instant-yes _ _ c.ranges.b_sec c.ranges.b_ns c.instant_of-2.ensures (some_asked _ _ c.ok_or-2.ensures.value c.in_ok-b.was)).means c.has_room.ensures.0 _ c.has_room.ensures.1 c.if-not-has_room.false _ c.walk.ensures.0 _ c.walk.ensures.1
