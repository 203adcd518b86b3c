-- `zone_calls::offset_in` meets its contract.
use Rattle.std.proofs.Common.{◌∙◌, arith, to_z-of_z}
use Rattle.std.specs.Int.{w64}
use Rattle.std.proofs.lemmas.Option.{MatchOption-at_some}
use Rattle.instant_signed.specs.InstantLaws.{instant-no, instant-yes}
use Rattle.refusal.specs.Asked.{none_asked, some_asked, refused_as}
use Rattle.zone_calls.specs.CallLaws.{offset-unusable, offset-out, offset-is, file-no, file-yes}
use Rattle.zone_calls.proofs.offset_in.Goals as goal

pub returns-in_err-z : goal.returns-in_err-z
returns-in_err-z c = refused_as _ _ c.ok_or.ensures.value _ _ c.in_err-z.was c.from_residual.ensures.1 ∙ offset-unusable _ _ _ (file-no _ c.«open».ensures.0 (none_asked _ _ c.ok_or.ensures.value c.in_err-z.was))

pub returns-in_err-t : goal.returns-in_err-t
returns-in_err-t c = refused_as _ _ c.ok_or-2.ensures.value _ _ c.in_err-t.was c.from_residual-in_err-t.ensures.1 ∙ offset-out _ _ _ (file-yes _ c.«open».ensures.0 (some_asked _ _ c.ok_or.ensures.value c.in_ok-z.was)) (instant-no _ _ c.ranges.sec c.ranges.ns c.instant_of.ensures (none_asked _ _ c.ok_or-2.ensures.value c.in_err-t.was))

pub run_at-requires : goal.run_at-requires
run_at-requires c = let i = (instant-yes _ _ c.ranges.sec c.ranges.ns c.instant_of.ensures (some_asked _ _ c.ok_or-2.ensures.value c.in_ok-t.was)) in (MatchOption-at_some _ _ _ (some_asked _ _ c.ok_or.ensures.value c.in_ok-z.was) c.«open».ensures.1, omega (arith, i.in-range.high))

pub returns : goal.returns
returns c = offset-is _ _ _ (file-yes _ c.«open».ensures.0 (some_asked _ _ c.ok_or.ensures.value c.in_ok-z.was)) (instant-yes _ _ c.ranges.sec c.ranges.ns c.instant_of.ensures (some_asked _ _ c.ok_or-2.ensures.value c.in_ok-t.was)) c.run_at.ensures.0 (to_z-of_z {w = w64} (record { sfits = c.east.type_inv }) ∙ c.east.ensures)
