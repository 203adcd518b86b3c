-- `civil::day_count` meets its contract.
use native.Mathlib.Omega.{arith}
use mir.Facts.{to_z-of_z}
use Rattle.laws_calendar.specs.Numbers.{day-bits, told-before, told-not}
use Rattle.civil.proofs.day_count.Goals as goal

pub returns-then-precedes : goal.returns-then-precedes
returns-then-precedes c = omega (arith, day-bits c.ranges.first, day-bits c.ranges.last, told-before _ _ c.precedes.ensures c.if-precedes.true)

pub days_from-requires : goal.days_from-requires
days_from-requires c =
    let f = c.ranges.first in
    let l = c.ranges.last in
    rw (to_z-of_z f, to_z-of_z l) (c.requires.0, c.requires.1, omega (arith, day-bits f, day-bits l, told-not _ _ c.precedes.ensures c.if-precedes.false))

pub overflow_add-result : goal.overflow_add-result
overflow_add-result c = omega (arith, day-bits c.ranges.last, c.requires.1.small)

pub returns : goal.returns
returns c = omega (arith, day-bits c.ranges.first, day-bits c.ranges.last, told-not _ _ c.precedes.ensures c.if-precedes.false)
