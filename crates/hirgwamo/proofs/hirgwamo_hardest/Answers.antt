-- `hirgwamo_hardest` meets its contract.
use Rattle.std.proofs.Common.{rules}
use Rattle.std.proofs.Common.{sym, ap, ◌∙◌, arith, to_z-of_z}
use Rattle.model.specs.Calls.{said}
use Rattle.laws_part.specs.Replies.{hardest-fits}
use Rattle.answer_numbers.specs.Written.{stored, no_more}
use Rattle.hirgwamo.proofs.Told as T
use Rattle.hirgwamo.proofs.hirgwamo_hardest.Goals as goal

pub returns-then-answer-lt-STRETCH_SIZE : goal.returns-then-answer-lt-STRETCH_SIZE
returns-then-answer-lt-STRETCH_SIZE c = T.too_short_lem _ _ _ c.if-answer-lt-STRETCH_SIZE.true

pub refuse-requires : goal.refuse-requires
refuse-requires c = let h = T.said-place (hardest-fits _ _ _ _ _ _) (sym (ap said c.in-Err.ensures)) in (omega arith, omega arith)

pub returns-in-Ok : goal.returns-in-Ok
returns-in-Ok c = T.told _ _ _ c.if-answer-lt-STRETCH_SIZE.false (T.numbers (stored (search rules) (stored (search rules) (stored (search rules) (stored (search rules) no_more)))) ∙ (ap said (rw (to_z-of_z c.ranges.t_sec, to_z-of_z c.ranges.t_ns, to_z-of_z c.ranges.width) at c.in-Ok.ensures))) c.give.ensures

pub returns-in-Err : goal.returns-in-Err
returns-in-Err c = T.told _ _ _ c.if-answer-lt-STRETCH_SIZE.false (ap said (rw (to_z-of_z c.ranges.t_sec, to_z-of_z c.ranges.t_ns, to_z-of_z c.ranges.width) at c.in-Err.ensures)) c.refuse.ensures
