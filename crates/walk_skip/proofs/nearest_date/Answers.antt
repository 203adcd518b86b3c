use native.Mathlib.Omega.{arith}
use Rattle.laws_calendar.specs.Numbers.{day-bits}
use Rattle.walk_skip.proofs.Near.{nears-first, nears-next, nears-end, number-kept, date-numbered}
use Rattle.walk_skip.proofs.nearest_date.Goals as goal

pub loop-i-init : goal.loop-i-init
loop-i-init c = nears-first _ _ _ _ _

pub nearer-near-requires : goal.nearer-near-requires
nearer-near-requires c = (number-kept c.requires.1, c.loop-i.invariant.numbered, date-numbered _ _ c.date_at-date.ensures)

pub loop-i-preserved : goal.loop-i-preserved
loop-i-preserved c = nears-next _ _ _ _ _ _ _ c.loop-i.invariant c.loop-i-test.true (omega (arith, day-bits c.ranges.from, c.requires.2)) c.date_at-date.ensures c.nearer-near.ensures

pub returns : goal.returns
returns c = nears-end c.loop-i.invariant (omega arith) (day-bits c.ranges.from)
