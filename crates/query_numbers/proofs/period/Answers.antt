-- `period` meets its contract.
use mir.Facts.{to_z-of_z}
use lib.IntN.{pos}
use Rattle.std.proofs.lemmas.Result.{err_from_is_err_and}
use Rattle.query_numbers.proofs.Answering as A
use Rattle.laws_part.specs.Replies.{period-placed}
use Rattle.query_numbers.proofs.period.Goals as goal

pub returns-in_err-p : goal.returns-in_err-p
returns-in_err-p c =
    let p = err_from_is_err_and c.from_residual.result c.from_residual.ensures.1 in
    rw (p.1, p.2) (A.period-reply _ _ _ (pos 0) (pos 0) _ (A.no-period-six (period-placed 0 _ _ _ _) (rw (to_z-of_z c.ranges.a, to_z-of_z c.ranges.b) at c.in_err-p.ensures)))

pub returns : goal.returns
returns c = A.period-reply _ _ _ (pos 0) (pos 0) _ (A.period-six (rw (to_z-of_z c.ranges.a, to_z-of_z c.ranges.b) at c.in_ok-p.ensures))
