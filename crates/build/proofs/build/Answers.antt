-- `build::build` meets its contract.
use Rattle.std.proofs.lemmas.Result.{err_from_is_err_and}
use Rattle.build.proofs.Work.{refused-before, works, no-work}
use Rattle.build.proofs.build.Goals as goal

pub returns-in_err-rules_into : goal.returns-in_err-rules_into
returns-in_err-rules_into c =
    let p = err_from_is_err_and c.from_residual.result c.from_residual.ensures.1 in
    rw (p.1, p.2) (refused-before _ _ c.in_err-rules_into.ensures)

pub returns-then-has_work : goal.returns-then-has_work
returns-then-has_work c = works _ _ c.in_ok-rules_into.ensures c.has_work.ensures c.if-has_work.true

pub returns : goal.returns
returns c = no-work _ _ c.in_ok-rules_into.ensures c.has_work.ensures c.if-has_work.false c.into.ensures
