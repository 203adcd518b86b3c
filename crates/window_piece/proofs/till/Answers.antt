-- `window_piece::till` meets its contract. Assumes nothing.
use native.Mathlib.Omega.{arith}
use Rattle.window_piece.proofs.Frames.{till-here, till-next}
use Rattle.window_piece.proofs.till.Goals as goal

pub returns-then-a-b : goal.returns-then-a-b
returns-then-a-b c = (till-here _ _ c.if-a-b.true, omega arith)

pub returns-else-a-b : goal.returns-else-a-b
returns-else-a-b c = (till-next _ _ c.if-a-b.false, omega arith)
