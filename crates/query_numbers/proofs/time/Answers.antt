-- `time` meets its contract.
use mir.Facts.{to_z-of_z}
use Rattle.std.proofs.lemmas.Result.{err_from_is_err_and}
use Rattle.query_numbers.proofs.Answering as A
use Rattle.laws_part.specs.Replies.{between-placed}
use Rattle.query_numbers.proofs.time.Goals as goal

pub returns-in_err-t : goal.returns-in_err-t
returns-in_err-t c =
    let p = err_from_is_err_and c.from_residual.result c.from_residual.ensures.1 in
    rw (p.1, p.2) (A.between-reply _ _ _ _ _ (A.refused-six (between-placed 0 _ _ _ _ _) (rw (to_z-of_z c.ranges.a, to_z-of_z c.ranges.b, to_z-of_z c.ranges.c, to_z-of_z c.ranges.d) at c.in_err-t.ensures)))

pub returns : goal.returns
returns c = A.between-reply _ _ _ _ _ (A.counted-six (between-placed 0 _ _ _ _ _) (rw (to_z-of_z c.ranges.a, to_z-of_z c.ranges.b, to_z-of_z c.ranges.c, to_z-of_z c.ranges.d) at c.in_ok-t.ensures))
