-- `hirgwamo_offset` meets its contract.
use Rattle.std.proofs.Common.{rules}
use Rattle.std.proofs.Common.{sym, ap, ◌∙◌, arith, to_z-of_z}
use Rattle.laws_part.specs.Placed.{place-most}
use Rattle.laws_part.specs.Replies.{offset-placed}
use Rattle.hirgwamo.specs.Part.{one_number}
use Rattle.answer_numbers.specs.Written.{stored, no_more}
use Rattle.hirgwamo.proofs.Told as T
use Rattle.hirgwamo.proofs.hirgwamo_offset.Goals as goal

pub returns-then-answer-lt-OFFSET_SIZE : goal.returns-then-answer-lt-OFFSET_SIZE
returns-then-answer-lt-OFFSET_SIZE c = T.too_short_lem _ _ _ c.if-answer-lt-OFFSET_SIZE.true

pub refuse-requires : goal.refuse-requires
refuse-requires c = let h = place-most (offset-placed 0 _ _ _) (sym c.in-Err.ensures) in (omega arith, omega arith)

pub returns-in-Ok : goal.returns-in-Ok
returns-in-Ok c = T.told _ _ _ c.if-answer-lt-OFFSET_SIZE.false (T.numbers (stored (search rules) no_more) ∙ (ap one_number (rw (to_z-of_z c.ranges.sec, to_z-of_z c.ranges.ns) at c.in-Ok.ensures))) c.give.ensures

pub returns-in-Err : goal.returns-in-Err
returns-in-Err c = T.told _ _ _ c.if-answer-lt-OFFSET_SIZE.false (ap one_number (rw (to_z-of_z c.ranges.sec, to_z-of_z c.ranges.ns) at c.in-Err.ensures)) c.refuse.ensures
