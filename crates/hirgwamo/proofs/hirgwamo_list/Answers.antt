-- `hirgwamo_list` meets its contract.
use Rattle.std.proofs.Common.{arith, to_z-of_z, refl}
use Rattle.std.specs.Int.{w64}
use Rattle.answer_numbers.specs.Written.{stored, no_more}
use Rattle.laws_part.specs.Replies.{list-fits}
use mir.Facts.{to_z_pos}
use Rattle.hirgwamo.proofs.Told as T
use Rattle.hirgwamo.proofs.hirgwamo_list.Goals as goal

pub returns-then-answer-lt-COUNT_SIZE : goal.returns-then-answer-lt-COUNT_SIZE
returns-then-answer-lt-COUNT_SIZE c = T.list-short _ _ _ c.if-answer-lt-COUNT_SIZE.true

pub overflow_cast-n : goal.overflow_cast-n
overflow_cast-n c = let h = T.stretches-fit c.args.stretches.now (list-fits _ _ _ _ _ _ _) c.in-Ok.ensures.0 in omega arith

pub refuse-requires : goal.refuse-requires
refuse-requires c = let h = T.listing-place c.args.stretches.now (list-fits _ _ _ _ _ _ _) c.in-Err.ensures.0 in (omega arith, omega arith)

pub returns-in-Ok : goal.returns-in-Ok
returns-in-Ok c = T.list-told _ _ _ c.if-answer-lt-COUNT_SIZE.false (rw (to_z-of_z c.ranges.a_sec, to_z-of_z c.ranges.a_ns, to_z-of_z c.ranges.b_sec, to_z-of_z c.ranges.b_ns) at c.in-Ok.ensures.0) (T.numbers (stored (to_z_pos w64 (let h = T.stretches-fit c.args.stretches.now (list-fits _ _ _ _ _ _ _) c.in-Ok.ensures.0 in omega arith)) no_more)) (rw (to_z-of_z c.ranges.a_sec, to_z-of_z c.ranges.a_ns, to_z-of_z c.ranges.b_sec, to_z-of_z c.ranges.b_ns) at c.in-Ok.ensures.1) c.give.ensures

pub returns-in-Err : goal.returns-in-Err
returns-in-Err c = T.list-told _ _ _ c.if-answer-lt-COUNT_SIZE.false (rw (to_z-of_z c.ranges.a_sec, to_z-of_z c.ranges.a_ns, to_z-of_z c.ranges.b_sec, to_z-of_z c.ranges.b_ns) at c.in-Err.ensures.0) refl (rw (to_z-of_z c.ranges.a_sec, to_z-of_z c.ranges.a_ns, to_z-of_z c.ranges.b_sec, to_z-of_z c.ranges.b_ns) at c.in-Err.ensures.1) c.refuse.ensures
