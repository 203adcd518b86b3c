-- `walk_list_week::put` meets its contract.
use Rattle.walk_list_week.proofs.Placing.{stored_no, stored-two}
use borrow.Author.Tests.{not-true, not-false}
use native.Mathlib.Omega.{arith}
use Rattle.walk_list_week.proofs.put.Goals as goal

pub returns-then-not-write : goal.returns-then-not-write
returns-then-not-write c = stored_no _ _ _ (not-true _ c.if-not-write.true-raw)

pub overflow_mul-i : goal.overflow_mul-i
overflow_mul-i c = let h = c.requires.0 (not-false _ c.if-not-write.false-raw) in record { fits = omega arith }

pub write_instant-requires : goal.write_instant-requires
write_instant-requires c = let h = c.requires.0 (not-false _ c.if-not-write.false-raw) in let u = c.requires.1.0 in let v = c.requires.1.1 in (omega arith, omega arith)

pub overflow_add-i : goal.overflow_add-i
overflow_add-i c = let h = c.requires.0 (not-false _ c.if-not-write.false-raw) in record { fits = omega arith }

pub write_instant-requires-2 : goal.write_instant-requires-2
write_instant-requires-2 c = let h = c.requires.0 (not-false _ c.if-not-write.false-raw) in let k = c.write_instant.auto.out in let u = c.requires.1.0 in let v = c.requires.1.1 in (omega arith, omega arith)

pub returns : goal.returns
returns c = stored-two _ _ _ (c.requires.0 (not-false _ c.if-not-write.false-raw)) (not-false _ c.if-not-write.false-raw) c.write_instant.ensures c.write_instant-2.ensures
