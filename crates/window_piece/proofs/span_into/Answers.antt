-- `window_piece::span_into` meets its contract. Assumes nothing.
use native.Mathlib.Omega.{arith}
use Rattle.window_piece.proofs.Fills.{span-in, span-out}
use Rattle.window_piece.proofs.span_into.Goals as goal

pub add-requires : goal.add-requires
add-requires c = (c.requires.normal, omega (arith, c.requires.room))

pub returns-then-from-to : goal.returns-then-from-to
returns-then-from-to c = span-in _ _ _ _ _ _ _ _ _ _ c.max-from.ensures c.min-to.ensures c.add.ensures.0 c.add.ensures.1 c.add.ensures.2

pub returns-else-from-to : goal.returns-else-from-to
returns-else-from-to c = span-out _ _ _ _ _ _ _ _ c.max-from.ensures c.min-to.ensures c.if-from-to.false c.requires.normal
