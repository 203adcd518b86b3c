-- `hirgwamo_between` meets its contract.
use Rattle.std.proofs.Common.{sym, ap, ◌∙◌, arith, to_z-of_z, refl, rules}
use Rattle.std.specs.Int.{w64}
use Rattle.laws_part.specs.Replies.{between-fits}
use mir.Facts.{to_z_pos}
use Rattle.hirgwamo.proofs.Told as T
use Rattle.hirgwamo.proofs.hirgwamo_between.Goals as goal

pub returns-then-answer-lt-TIME_SIZE : goal.returns-then-answer-lt-TIME_SIZE
returns-then-answer-lt-TIME_SIZE c = T.too_short_lem _ _ _ c.if-answer-lt-TIME_SIZE.true

pub overflow_cast-x : goal.overflow_cast-x
overflow_cast-x c = let h = T.count_fits c.in-Ok.ensures (between-fits _ _ _ _ _ _) refl in omega arith

pub refuse-requires : goal.refuse-requires
refuse-requires c = let h = T.counted-place c.in-Err.ensures (between-fits _ _ _ _ _ _) refl in (omega arith, omega arith)

pub returns-in-Ok : goal.returns-in-Ok
returns-in-Ok c = T.told _ _ _ c.if-answer-lt-TIME_SIZE.false (T.counted-gives (rw (to_z-of_z c.ranges.a_sec, to_z-of_z c.ranges.a_ns, to_z-of_z c.ranges.b_sec, to_z-of_z c.ranges.b_ns) at c.in-Ok.ensures) refl refl (search rules) (search rules) (to_z_pos w64 (T.count_fits c.in-Ok.ensures (between-fits _ _ _ _ _ _) refl))) c.give.ensures

pub returns-in-Err : goal.returns-in-Err
returns-in-Err c = T.told _ _ _ c.if-answer-lt-TIME_SIZE.false (T.counted-refuses (rw (to_z-of_z c.ranges.a_sec, to_z-of_z c.ranges.a_ns, to_z-of_z c.ranges.b_sec, to_z-of_z c.ranges.b_ns) at c.in-Err.ensures) refl) c.refuse.ensures
