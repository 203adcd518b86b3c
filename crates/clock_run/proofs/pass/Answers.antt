use Rattle.std.proofs.Common.{refl, ◌∙◌}
use Rattle.clock_run.proofs.Passing.{at_err, bytes-at, passing-first, passing-next, passing-fails}
use Rattle.clock_run.proofs.pass.Goals as goal

pub loop-r-init : goal.loop-r-init
loop-r-init g c = (refl, passing-first _ _ _ _ _ refl refl (bytes-at _ (λ k. (c.type_inv.input k).fits)))

pub returns-in_err-write_all-clause-err : goal.returns-in_err-write_all-clause-err
returns-in_err-write_all-clause-err g c =
    let (n, w) = c.in_err-write_all.ensures in
    at_err _ (passing-fails _ _ _ _ _ _ _ _ _ _ _ _ refl refl refl refl c.loop-r.invariant.1 c.feed-r.ensures n w)

pub loop-r-preserved : goal.loop-r-preserved
loop-r-preserved g c =
    (c.feed-r.auto.out ∙ c.loop-r.invariant.0, passing-next _ _ _ _ _ _ _ _ _ _ _ _ refl refl refl refl c.loop-r.invariant.1 c.feed-r.ensures c.in_ok-write_all.ensures)
