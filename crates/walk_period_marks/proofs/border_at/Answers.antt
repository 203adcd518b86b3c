-- `walk_period_marks::border_at` meets its contract. Assumes nothing.
use native.Mathlib.Omega.{arith}
use Rattle.walk_period_marks.proofs.border_at.Goals as goal

pub returns : goal.returns
returns c = let e = c.window_end-y.ensures.0 in let g = c.reach.ensures.0 in record { instant = c.at.ensures.0; in-range = c.at.ensures.1; window = c.place-window.ensures.0; placed = rw (e, g) at c.place-window.ensures.1; from = c.requires.from; upto = let k = c.requires.upto in let n = c.requires.near in omega arith }
