-- `hirgwamo_resolve_marked` meets its contract.
use Rattle.std.proofs.Common.{rules}
use Rattle.std.proofs.Common.{sym, ap, ◌∙◌, arith, to_z-of_z}
use Rattle.laws_part.specs.Placed.{place-most}
use Rattle.laws_part.specs.Replies.{resolve-placed}
use Rattle.laws_marks.specs.Resolve.{resolve-forgets}
use Rattle.answer_numbers.specs.Written.{stored, no_more}
use Rattle.hirgwamo.proofs.Told as T
use Rattle.hirgwamo.proofs.hirgwamo_resolve_marked.Goals as goal

pub returns-then-answer-lt-MARKED_INSTANT_SIZE : goal.returns-then-answer-lt-MARKED_INSTANT_SIZE
returns-then-answer-lt-MARKED_INSTANT_SIZE c = T.too_short_lem _ _ _ c.if-answer-lt-MARKED_INSTANT_SIZE.true

pub refuse-requires : goal.refuse-requires
refuse-requires c = let h = place-most (resolve-placed 0 _ _ _ _ _ _) (resolve-forgets _ _ _ _ _ _ ∙ ap T.first_two (sym c.in-Err.ensures)) in (omega arith, omega arith)

pub returns-in-Ok : goal.returns-in-Ok
returns-in-Ok c = T.told _ _ _ c.if-answer-lt-MARKED_INSTANT_SIZE.false (T.numbers (stored (search rules) (stored (search rules) (stored (search rules) no_more))) ∙ (rw (to_z-of_z c.ranges.year, to_z-of_z c.ranges.month, to_z-of_z c.ranges.day, to_z-of_z c.ranges.second, to_z-of_z c.ranges.ns) at c.in-Ok.ensures)) c.give.ensures

pub returns-in-Err : goal.returns-in-Err
returns-in-Err c = T.told _ _ _ c.if-answer-lt-MARKED_INSTANT_SIZE.false (rw (to_z-of_z c.ranges.year, to_z-of_z c.ranges.month, to_z-of_z c.ranges.day, to_z-of_z c.ranges.second, to_z-of_z c.ranges.ns) at c.in-Err.ensures) c.refuse.ensures
