-- `query_answer::put_counted` meets its contract.
use mir.Facts.{to_z-of_z}
use mir.Syntax.{w64}
use Rattle.query_answer.proofs.Counting.{counted-given, counted-refused}
use Rattle.query_answer.proofs.put_counted.Goals as goal

pub returns-in-Ok : goal.returns-in-Ok
returns-in-Ok c = (counted-given _ c.in-Ok.x _ _ c.in-Ok.is (to_z-of_z {w = w64} (record { sfits = c.struct_told-1.given.0.1 })) (to_z-of_z {w = w64} (record { sfits = c.struct_told-1.given.1.0.1 })) c.put_counted.ensures.0, c.put_counted.ensures.1)

pub returns-in-Err : goal.returns-in-Err
returns-in-Err c = (counted-refused _ _ c.in-Err.is c.put_refused.ensures.0, c.put_refused.ensures.1)
