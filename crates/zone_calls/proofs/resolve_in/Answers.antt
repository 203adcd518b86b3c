-- `zone_calls::resolve_in` meets its contract.
use Rattle.std.proofs.Common.{◌∙◌}
use Rattle.std.proofs.lemmas.Option.{MatchOption-at_some}
use Rattle.refusal.specs.Asked.{none_asked, some_asked, refused_as}
use Rattle.zone_calls.specs.CallLaws.{resolve-unusable, resolve-no-date, resolve-no-time, resolve-listed, given-day-in, date-no, date-yes, date-on, time-no, time-yes, time-in, file-no, file-yes}
use Rattle.zone_calls.proofs.resolve_in.Goals as goal

pub returns-in_err-zone : goal.returns-in_err-zone
returns-in_err-zone c = refused_as _ _ c.ok_or.ensures.value _ _ c.in_err-zone.was c.from_residual.ensures.1 ∙ resolve-unusable _ _ _ _ _ _ (file-no _ c.«open».ensures.0 (none_asked _ _ c.ok_or.ensures.value c.in_err-zone.was))

pub returns-in_err-d : goal.returns-in_err-d
returns-in_err-d c = refused_as _ _ c.ok_or-2.ensures.value _ _ c.in_err-d.was c.from_residual-in_err-d.ensures.1 ∙ resolve-no-date _ _ _ _ _ _ (file-yes _ c.«open».ensures.0 (some_asked _ _ c.ok_or.ensures.value c.in_ok-zone.was)) (date-no _ _ _ c.ranges.year c.ranges.month c.ranges.day c.day_given.ensures (none_asked _ _ c.ok_or-2.ensures.value c.in_err-d.was))

pub returns-in_err-ok_or : goal.returns-in_err-ok_or
returns-in_err-ok_or c = refused_as _ _ c.ok_or-3.ensures.value _ _ c.in_err-ok_or.was c.from_residual-in_err-ok_or.ensures.1 ∙ resolve-no-time _ _ _ _ _ _ (file-yes _ c.«open».ensures.0 (some_asked _ _ c.ok_or.ensures.value c.in_ok-zone.was)) (date-yes _ _ _ c.ranges.year c.ranges.month c.ranges.day c.day_given.ensures (some_asked _ _ c.ok_or-2.ensures.value c.in_ok-d.was)) (time-no _ _ c.ranges.second c.ranges.ns c.capped.ensures c.capped-2.ensures c.time_of.ensures (none_asked _ _ c.ok_or-3.ensures.value c.in_err-ok_or.was))

pub resolve_marked-marked-requires : goal.resolve_marked-marked-requires
resolve_marked-marked-requires c = let t = time-in _ _ c.time_of.ensures (some_asked _ _ c.ok_or-3.ensures.value c.in_ok-ok_or.was) in (MatchOption-at_some _ _ _ (some_asked _ _ c.ok_or.ensures.value c.in_ok-zone.was) c.«open».ensures.1, given-day-in _ _ _ (date-on _ _ _ c.ranges.year c.ranges.month c.ranges.day c.day_given.ensures (some_asked _ _ c.ok_or-2.ensures.value c.in_ok-d.was)), record { seconds = t.0; nanos = t.1 })

pub returns : goal.returns
returns c = resolve-listed _ _ _ _ _ _ (file-yes _ c.«open».ensures.0 (some_asked _ _ c.ok_or.ensures.value c.in_ok-zone.was)) (date-on _ _ _ c.ranges.year c.ranges.month c.ranges.day c.day_given.ensures (some_asked _ _ c.ok_or-2.ensures.value c.in_ok-d.was)) (time-yes _ _ c.ranges.second c.ranges.ns c.capped.ensures c.capped-2.ensures c.time_of.ensures (some_asked _ _ c.ok_or-3.ensures.value c.in_ok-ok_or.was)) c.signed_instant.ensures c.resolve_marked-marked.ensures.0 c.resolve_marked-marked.ensures.2
