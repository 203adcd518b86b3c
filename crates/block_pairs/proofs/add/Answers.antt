-- `block_pairs::add` meets its contract. Assumes nothing.
use native.Mathlib.Omega.{arith}
use mathlib.Core.Path.{refl, sym, ◌∙◌}
use Rattle.block_pairs.proofs.Adding.{add_none, add_apart, add-touch}
use Rattle.block_pairs.proofs.add.Goals as goal

pub returns-then-e-s : goal.returns-then-e-s
returns-then-e-s c = (add_none _ _ _ _ c.requires.0 c.if-e-s.true, omega arith, refl)

pub started-i-requires : goal.started-i-requires
started-i-requires c = (c.requires.0, omega (arith, c.requires.1))

pub insert-requires : goal.insert-requires
insert-requires c = (c.started-i.ensures.upto, c.requires.1)

pub returns-then-i-j : goal.returns-then-i-j
returns-then-i-j c = (c.insert.ensures.0 ∙ add_apart _ _ _ _ c.requires.0 c.if-e-s.false _ c.started-i.ensures (rw (sym c.if-i-j.true) at c.ended-j.ensures), omega (arith, c.insert.ensures.1), c.insert.ensures.2)

pub absorb-requires : goal.absorb-requires
absorb-requires c = (omega (arith, c.ended-j.ensures.upto, c.if-i-j.false), c.started-i.ensures.upto, omega arith)

pub returns : goal.returns
returns c = (c.absorb.ensures.0 ∙ add-touch _ _ _ _ c.requires.0 c.if-e-s.false _ c.started-i.ensures _ c.ended-j.ensures (λ p. c.if-i-j.false (sym p)), omega (arith, c.absorb.ensures.1), c.absorb.ensures.2)
