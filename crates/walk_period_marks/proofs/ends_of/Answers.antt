-- `walk_period_marks::ends_of` meets its contract: by its two ways. Assumes nothing.
use Rattle.walk_period_marks.specs.PeriodMarked.{span-on, span-back}
use Rattle.walk_period.specs.Found.{near-short, far-short}
use native.Mathlib.Omega.{arith}
use Rattle.walk_period_marks.proofs.ends_of.Goals as goal

pub at-near-requires : goal.at-near-requires
at-near-requires c = (c.requires.0, near-short _ c.requires.0 c.requires.1, (let n = c.requires.1.near in let o = c.requires.1.order in omega arith))

pub at-far-requires : goal.at-far-requires
at-far-requires c = (c.requires.0, far-short _ c.requires.0 c.requires.1, c.requires.1.near)

pub returns-then-back : goal.returns-then-back
returns-then-back c = rw c.if-back.true (span-back (rw c.if-back.true at c.at-far.ensures.0) (rw c.if-back.true at c.at-near.ensures.0) c.at-far.ensures.1 c.at-near.ensures.1)

pub returns-else-back : goal.returns-else-back
returns-else-back c = rw c.if-back.false (span-on (rw c.if-back.false at c.at-near.ensures.0) (rw c.if-back.false at c.at-far.ensures.0) c.at-near.ensures.1 c.at-far.ensures.1)
