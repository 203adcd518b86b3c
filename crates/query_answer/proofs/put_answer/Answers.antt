-- `query_answer::put_answer` meets its contract.
use mir.Facts.{to_z-of_z}
use mir.Syntax.{w64}
use borrow.Author.Rules.{rules}
use Rattle.model.specs.Answer.{gives}
use Rattle.rule.specs.Rules.{schedule_is}
use Rattle.query_answer.proofs.Counting.{line-between, line-add, line-sub, line-next, line-previous}
use Rattle.query_answer.proofs.put_answer.Goals as goal

pub returns-in-Between : goal.returns-in-Between
returns-in-Between c = (line-between _ _ c.between_in-r.result _ _ _ _ _ _ _ _ c.in-Between.is (to_z-of_z {w = w64} (record { sfits = c.in-Between.known_told-1-own.given.0.1 })) (to_z-of_z {w = w64} (record { sfits = c.in-Between.known_told-1-own.given.1.0.1 })) (to_z-of_z {w = w64} (record { sfits = c.in-Between.known_told-1-own.given.1.1.0.1 })) (to_z-of_z {w = w64} (record { sfits = c.in-Between.known_told-1-own.given.1.1.1.0.1 })) c.between_in-r.ensures c.put_counted.ensures.0, c.put_counted.ensures.1)

pub returns-in-Add : goal.returns-in-Add
returns-in-Add c = (line-add _ _ c.move_in-r.result _ _ _ _ _ _ _ _ c.in-Add.is (to_z-of_z {w = w64} (record { sfits = c.in-Add.known_told-in-Add-1-own.given.0.1 })) (to_z-of_z {w = w64} (record { sfits = c.in-Add.known_told-in-Add-1-own.given.1.0.1 })) (to_z-of_z {w = w64} (record { sfits = c.in-Add.known_told-in-Add-1-own.given.1.1.0.1 })) (to_z-of_z {w = w64} (record { sfits = c.in-Add.known_told-in-Add-1-own.given.1.1.1.0.1 })) c.move_in-r.ensures c.put_counted-in-Add.ensures.0, c.put_counted-in-Add.ensures.1)

pub returns-in-Sub : goal.returns-in-Sub
returns-in-Sub c = (line-sub _ _ c.move_in-r-in-Sub.result _ _ _ _ _ _ _ _ c.in-Sub.is (to_z-of_z {w = w64} (record { sfits = c.in-Sub.known_told-in-Sub-1-own.given.0.1 })) (to_z-of_z {w = w64} (record { sfits = c.in-Sub.known_told-in-Sub-1-own.given.1.0.1 })) (to_z-of_z {w = w64} (record { sfits = c.in-Sub.known_told-in-Sub-1-own.given.1.1.0.1 })) (to_z-of_z {w = w64} (record { sfits = c.in-Sub.known_told-in-Sub-1-own.given.1.1.1.0.1 })) c.move_in-r-in-Sub.ensures c.put_counted-in-Sub.ensures.0, c.put_counted-in-Sub.ensures.1)

pub returns-in-Next : goal.returns-in-Next
returns-in-Next c = (line-next _ _ _ _ _ _ _ c.in-Next.is (to_z-of_z {w = w64} (record { sfits = c.in-Next.known_told-in-Next-1-own.given.0.1 })) (to_z-of_z {w = w64} (record { sfits = c.in-Next.known_told-in-Next-1-own.given.1.0.1 })) c.period_in-r.ensures c.put_period.ensures.0, c.put_period.ensures.1)

pub returns-in-Previous : goal.returns-in-Previous
returns-in-Previous c = (line-previous _ _ _ _ _ _ _ c.in-Previous.is (to_z-of_z {w = w64} (record { sfits = c.in-Previous.known_told-in-Previous-1-own.given.0.1 })) (to_z-of_z {w = w64} (record { sfits = c.in-Previous.known_told-in-Previous-1-own.given.1.0.1 })) c.period_in-r-in-Previous.ensures c.put_period-in-Previous.ensures.0, c.put_period-in-Previous.ensures.1)
