-- `window_piece::piece_into` meets its contract. Assumes nothing.
use native.Mathlib.Omega.{arith}
use mathlib.Core.Path.{sym, ◌∙◌}
use borrow.Author.Tests.{ltb-true, ltb-false}
use Rattle.window_piece.proofs.Fills.{piece-in, piece-out}
use Rattle.window_piece.proofs.piece_into.Goals as goal

pub since-a-requires : goal.since-a-requires
since-a-requires c = let h = ltb-true _ _ (sym c.precedes.ensures ∙ c.if-precedes.true) in (c.requires.0.range, c.requires.0.from h, omega (arith, c.requires.0.upto h))

pub since-b-requires : goal.since-b-requires
since-b-requires c = let h = ltb-true _ _ (sym c.precedes.ensures ∙ c.if-precedes.true) in (c.requires.0.range, omega (arith, c.requires.0.from h), c.requires.0.upto h)

pub add-requires : goal.add-requires
add-requires c = (c.requires.1.normal, omega (arith, c.requires.1.room))

pub returns-then-precedes : goal.returns-then-precedes
returns-then-precedes c = let h = ltb-true _ _ (sym c.precedes.ensures ∙ c.if-precedes.true) in piece-in _ _ _ _ _ _ _ c.args.x (c.requires.0.from h) c.since-a.ensures c.since-b.ensures c.add.ensures.0 c.add.ensures.1 c.add.ensures.2

pub returns-else-precedes : goal.returns-else-precedes
returns-else-precedes c = piece-out _ _ _ c.args.x (ltb-false _ _ (sym c.precedes.ensures ∙ c.if-precedes.false)) c.requires.1.normal
