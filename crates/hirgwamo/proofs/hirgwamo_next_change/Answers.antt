-- `hirgwamo_next_change` meets its contract.
use Rattle.std.proofs.Common.{rules}
use Rattle.std.proofs.Common.{sym, ap, ◌∙◌, arith, to_z-of_z, refl}
use Rattle.laws_part.specs.Placed.{place-most}
use Rattle.laws_part.specs.Replies.{change-placed}
use Rattle.hirgwamo.specs.Part.{when_changed}
use Rattle.answer_numbers.specs.Written.{stored, no_more}
use Rattle.std.specs.Prelude.{pos}
use Rattle.hirgwamo.proofs.Told as T
use Rattle.hirgwamo.proofs.hirgwamo_next_change.Goals as goal

pub returns-then-answer-lt-CHANGE_SIZE : goal.returns-then-answer-lt-CHANGE_SIZE
returns-then-answer-lt-CHANGE_SIZE c = T.too_short_lem _ _ _ c.if-answer-lt-CHANGE_SIZE.true

pub refuse-requires : goal.refuse-requires
refuse-requires c = let h = place-most (change-placed 0 _ _ _) (sym c.in-Err.ensures) in (omega arith, omega arith)

pub returns-in-Ok-Some : goal.returns-in-Ok-Some
returns-in-Ok-Some c = T.told _ _ _ c.if-answer-lt-CHANGE_SIZE.false (T.numbers (stored {u = pos 1} {a = pos 1} refl (stored (search rules) (stored (search rules) no_more))) ∙ (ap when_changed (rw c.in-Ok-Some.field-0-is at (rw (to_z-of_z c.ranges.sec, to_z-of_z c.ranges.ns) at c.in-Ok-Some.ensures)))) c.give.ensures

pub returns-in-Ok-None : goal.returns-in-Ok-None
returns-in-Ok-None c = T.told _ _ _ c.if-answer-lt-CHANGE_SIZE.false (ap when_changed (rw c.in-Ok-None.field-0-is at (rw (to_z-of_z c.ranges.sec, to_z-of_z c.ranges.ns) at c.in-Ok-None.ensures))) c.give-in-Ok-None.ensures

pub returns-in-Err : goal.returns-in-Err
returns-in-Err c = T.told _ _ _ c.if-answer-lt-CHANGE_SIZE.false (ap when_changed (rw (to_z-of_z c.ranges.sec, to_z-of_z c.ranges.ns) at c.in-Err.ensures)) c.refuse.ensures
