-- `hirgwamo_build` meets its contract.
use Rattle.std.proofs.Common.{sym, ap, arith}
use Rattle.laws_part.specs.Placed.{place-most}
use Rattle.laws_part.specs.Places.{build-placed}
use Rattle.hirgwamo.specs.Part.{verdict}
use Rattle.hirgwamo.proofs.Told as T
use Rattle.hirgwamo.proofs.hirgwamo_build.Goals as goal

pub returns-then-answer-lt-VERDICT_SIZE : goal.returns-then-answer-lt-VERDICT_SIZE
returns-then-answer-lt-VERDICT_SIZE c = T.too_short_lem _ _ _ c.if-answer-lt-VERDICT_SIZE.true

pub refuse-requires : goal.refuse-requires
refuse-requires c = let h = place-most (build-placed _ _) (sym c.in-Err.ensures.means) in (omega arith, omega arith)

pub returns-in-Ok : goal.returns-in-Ok
returns-in-Ok c = T.told _ _ _ c.if-answer-lt-VERDICT_SIZE.false (ap verdict c.in-Ok.ensures.means) c.give.ensures

pub returns-in-Err : goal.returns-in-Err
returns-in-Err c = T.told _ _ _ c.if-answer-lt-VERDICT_SIZE.false (ap verdict c.in-Err.ensures.means) c.refuse.ensures
