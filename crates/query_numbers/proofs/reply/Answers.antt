-- `reply` meets its contract.
use mathlib.Core.Path.{sym}
use native.Mathlib.Omega.{arith}
use mir.Facts.{to_z-of_z}
use Rattle.laws_part.specs.Placed.{place-most}
use Rattle.laws_part.specs.Places.{build-placed}
use Rattle.laws_skip.specs.Books.{build-well}
use Rattle.query_numbers.proofs.reply.Goals as goal

pub answer-requires : goal.answer-requires
answer-requires c = let w = rw c.in-Ok.is at c.requires in (w.fits, build-well _ _ _ (sym w.means))

pub returns-in-Ok : goal.returns-in-Ok
returns-in-Ok c =
    let w = rw c.in-Ok.is at c.requires in
    rw (← w.means) (rw (to_z-of_z c.ranges.kind, to_z-of_z c.ranges.a, to_z-of_z c.ranges.b, to_z-of_z c.ranges.c, to_z-of_z c.ranges.d) at c.answer.ensures)

pub refused-requires : goal.refused-requires
refused-requires c = let w = rw c.in-Err.is at c.requires in let h = place-most (build-placed _ _) (sym w.means) in omega arith

pub returns-in-Err : goal.returns-in-Err
returns-in-Err c =
    let w = rw c.in-Err.is at c.requires in
    rw (← w.means) (rw (to_z-of_z c.ranges.kind, to_z-of_z c.ranges.a, to_z-of_z c.ranges.b, to_z-of_z c.ranges.c, to_z-of_z c.ranges.d) at c.refused.ensures)
