-- `hirgwamo_previous_period_marked` meets its contract.
use Rattle.std.proofs.Common.{rules}
use Rattle.std.proofs.Common.{sym, ap, ◌∙◌, arith, to_z-of_z}
use Rattle.model.specs.Walk.{back}
use Rattle.laws_marks.specs.Periods.{unmarked_period, previous-forgets}
use Rattle.laws_part.specs.Replies.{period-fits}
use Rattle.answer_numbers.specs.Written.{stored, no_more}
use Rattle.hirgwamo.proofs.Told as T
use Rattle.hirgwamo.proofs.hirgwamo_previous_period_marked.Goals as goal

pub returns-then-answer-lt-MARKED_PERIOD_SIZE : goal.returns-then-answer-lt-MARKED_PERIOD_SIZE
returns-then-answer-lt-MARKED_PERIOD_SIZE c = T.too_short_lem _ _ _ c.if-answer-lt-MARKED_PERIOD_SIZE.true

pub refuse-requires : goal.refuse-requires
refuse-requires c = let h = T.said-place (period-fits _ _ back _ _) (sym (previous-forgets _ _ _ _) ∙ ap unmarked_period (sym c.in-Err.ensures)) in (omega arith, omega arith)

pub returns-in-Ok : goal.returns-in-Ok
returns-in-Ok c = T.told _ _ _ c.if-answer-lt-MARKED_PERIOD_SIZE.false (T.numbers (stored (search rules) (stored (search rules) (stored (search rules) (stored (search rules) (stored (search rules) (stored (search rules) no_more)))))) ∙ (rw (to_z-of_z c.ranges.sec, to_z-of_z c.ranges.ns) at c.in-Ok.ensures)) c.give.ensures

pub returns-in-Err : goal.returns-in-Err
returns-in-Err c = T.told _ _ _ c.if-answer-lt-MARKED_PERIOD_SIZE.false (rw (to_z-of_z c.ranges.sec, to_z-of_z c.ranges.ns) at c.in-Err.ensures) c.refuse.ensures
