use Rattle.std.proofs.Common.{arith, ltb-true, ltb-false, sym, ◌∙◌}
use Rattle.build_blocks.proofs.Pieces.{away-in, away-out}
use Rattle.build_blocks.proofs.away.Goals as goal

pub since-requires : goal.since-requires
since-requires c = let h = ltb-true _ _ (sym c.precedes.ensures ∙ c.if-precedes.true) in (c.requires.range, c.requires.from h, omega (arith, c.requires.upto h))

pub since-requires-then-precedes : goal.since-requires-then-precedes
since-requires-then-precedes c = let h = ltb-true _ _ (sym c.precedes.ensures ∙ c.if-precedes.true) in (c.requires.range, omega (arith, c.requires.from h), c.requires.upto h)

pub returns-then-precedes : goal.returns-then-precedes
returns-then-precedes c = let h = ltb-true _ _ (sym c.precedes.ensures ∙ c.if-precedes.true) in away-in _ _ _ (c.requires.from h) h c.since.ensures c.since-then-precedes.ensures

pub returns-else-precedes : goal.returns-else-precedes
returns-else-precedes c = away-out _ _ (ltb-false _ _ (sym c.precedes.ensures ∙ c.if-precedes.false))
