-- `zone_calls::next_change_in` meets its contract.
use Rattle.std.proofs.Common.{◌≤◌, ◌∙◌, arith}
use Rattle.model.specs.Instant.{last_second}
use Rattle.std.proofs.lemmas.Option.{MatchOption-at_some}
use Rattle.instant_signed.specs.InstantLaws.{instant-no, instant-yes}
use Rattle.refusal.specs.Asked.{none_asked, some_asked, refused_as}
use Rattle.zone_calls.specs.CallLaws.{change-unusable, change-out, change-never, change-listed, change-in, file-no, file-yes}
use Rattle.zone_calls.proofs.next_change_in.Goals as goal

pub returns-in_err-zone : goal.returns-in_err-zone
returns-in_err-zone c = refused_as _ _ c.ok_or.ensures.value _ _ c.in_err-zone.was c.from_residual.ensures.1 ∙ change-unusable _ _ _ (file-no _ c.«open».ensures.0 (none_asked _ _ c.ok_or.ensures.value c.in_err-zone.was))

pub returns-in_err-t : goal.returns-in_err-t
returns-in_err-t c = refused_as _ _ c.ok_or-2.ensures.value _ _ c.in_err-t.was c.from_residual-in_err-t.ensures.1 ∙ change-out _ _ _ (file-yes _ c.«open».ensures.0 (some_asked _ _ c.ok_or.ensures.value c.in_ok-zone.was)) (instant-no _ _ c.ranges.sec c.ranges.ns c.instant_of.ensures (none_asked _ _ c.ok_or-2.ensures.value c.in_err-t.was))

pub next_change-requires : goal.next_change-requires
next_change-requires c = MatchOption-at_some _ _ _ (some_asked _ _ c.ok_or.ensures.value c.in_ok-zone.was) c.«open».ensures.1

pub returns-in_default : goal.returns-in_default
returns-in_default c = change-never _ _ _ (file-yes _ c.«open».ensures.0 (some_asked _ _ c.ok_or.ensures.value c.in_ok-zone.was)) (instant-yes _ _ c.ranges.sec c.ranges.ns c.instant_of.ensures (some_asked _ _ c.ok_or-2.ensures.value c.in_ok-t.was)) c.next_change.ensures c.in_default.is

pub signed_instant-requires : goal.signed_instant-requires
signed_instant-requires c = let k : c.in-Some.sec ≤ last_second = change-in _ _ c.next_change.ensures c.in-Some.is in (omega arith, omega arith)

pub returns : goal.returns
returns c = change-listed _ _ _ (file-yes _ c.«open».ensures.0 (some_asked _ _ c.ok_or.ensures.value c.in_ok-zone.was)) (instant-yes _ _ c.ranges.sec c.ranges.ns c.instant_of.ensures (some_asked _ _ c.ok_or-2.ensures.value c.in_ok-t.was)) c.next_change.ensures c.in-Some.is c.signed_instant.ensures
