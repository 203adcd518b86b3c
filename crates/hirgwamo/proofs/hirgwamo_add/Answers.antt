-- `hirgwamo_add` meets its contract.
use Rattle.std.proofs.Common.{sym, ap, ◌∙◌, arith, to_z-of_z, refl, rules}
use Rattle.std.specs.Int.{w64}
use Rattle.laws_part.specs.Replies.{move-fits}
use Rattle.model.specs.Walk.{on}
use mir.Facts.{to_z_pos}
use Rattle.hirgwamo.proofs.Told as T
use Rattle.hirgwamo.proofs.hirgwamo_add.Goals as goal

pub returns-then-answer-lt-INSTANT_SIZE : goal.returns-then-answer-lt-INSTANT_SIZE
returns-then-answer-lt-INSTANT_SIZE c = T.too_short_lem _ _ _ c.if-answer-lt-INSTANT_SIZE.true

pub overflow_cast-x : goal.overflow_cast-x
overflow_cast-x c = let h = T.count_fits c.in-Ok.ensures (move-fits _ _ on _ _ _ _) refl in omega arith

pub refuse-requires : goal.refuse-requires
refuse-requires c = let h = T.counted-place c.in-Err.ensures (move-fits _ _ on _ _ _ _) refl in (omega arith, omega arith)

pub returns-in-Ok : goal.returns-in-Ok
returns-in-Ok c = T.told _ _ _ c.if-answer-lt-INSTANT_SIZE.false (T.counted-gives (rw (to_z-of_z c.ranges.t_sec, to_z-of_z c.ranges.t_ns, to_z-of_z c.ranges.d_sec, to_z-of_z c.ranges.d_ns) at c.in-Ok.ensures) refl refl (search rules) (search rules) (to_z_pos w64 (T.count_fits c.in-Ok.ensures (move-fits _ _ on _ _ _ _) refl))) c.give.ensures

pub returns-in-Err : goal.returns-in-Err
returns-in-Err c = T.told _ _ _ c.if-answer-lt-INSTANT_SIZE.false (T.counted-refuses (rw (to_z-of_z c.ranges.t_sec, to_z-of_z c.ranges.t_ns, to_z-of_z c.ranges.d_sec, to_z-of_z c.ranges.d_ns) at c.in-Err.ensures) refl) c.refuse.ensures
