use mathlib.Core.Path.{sym, ◌∙◌, ap}
use native.Mathlib.Omega.{arith}
use mir.Facts.{to_z-of_z}
use Rattle.laws_calendar.specs.Numbers.{is-fits, day-bits, bits-day}
use Rattle.build_blocks.specs.Shown.{any_block}
use Rattle.build_blocks.proofs.Any.{some_any, passed-starts, date-shows, date-passed, dates-passed, dates-all}
use Rattle.build_blocks.proofs.shows.Goals as goal

pub shifts_of-x-requires : goal.shifts_of-x-requires
shifts_of-x-requires c = c.requires

pub day_count-count-requires : goal.day_count-count-requires
day_count-count-requires c = let q = c.shifts_of-x.ensures.dates in rw (to_z-of_z (is-fits q.first-number), to_z-of_z (is-fits q.last-number)) (q.first-number, q.last-number)

pub loop-k-init : goal.loop-k-init
loop-k-init c = passed-starts _ _ _ _ _

pub later-requires : goal.later-requires
later-requires c = let q = c.shifts_of-x.ensures.dates in let a = day-bits (is-fits q.first-number) in let b = day-bits (is-fits q.last-number) in
    rw (to_z-of_z (is-fits q.first-number)) (q.first-number, omega (arith, q.high, c.day_count-count.ensures, c.loop-k-test.true))

pub piece_on-requires : goal.piece_on-requires
piece_on-requires c = let q = c.shifts_of-x.ensures.dates in let a = day-bits (is-fits q.first-number) in let b = day-bits (is-fits q.last-number) in
    let n = c.day_count-count.ensures in let l = c.loop-k-test.true in let t = bits-day c.later.ensures (omega (arith, q.high)) in
    (c.requires.0, c.requires.1, c.shifts_of-x.ensures, omega arith, omega arith)

pub returns-then-is_some : goal.returns-then-is_some
returns-then-is_some c = let q = c.shifts_of-x.ensures.dates in let a = day-bits (is-fits q.first-number) in let b = day-bits (is-fits q.last-number) in
    let n = c.day_count-count.ensures in let l = c.loop-k-test.true in let t = bits-day c.later.ensures (omega (arith, q.high)) in
    date-shows _ _ _ _ _ _ c.loop-k.invariant l (sym (c.is_some.ensures ∙ some_any _ _ _ _ (rw t at c.piece_on.ensures)) ∙ c.if-is_some.true)
    ∙ rw (n, a, b) (ap any_block (dates-all _ _ _ _ q))

pub loop-k-preserved : goal.loop-k-preserved
loop-k-preserved c = let q = c.shifts_of-x.ensures.dates in let a = day-bits (is-fits q.first-number) in let b = day-bits (is-fits q.last-number) in
    let n = c.day_count-count.ensures in let l = c.loop-k-test.true in let t = bits-day c.later.ensures (omega (arith, q.high)) in
    date-passed _ _ _ _ _ _ c.loop-k.invariant l (sym (c.is_some.ensures ∙ some_any _ _ _ _ (rw t at c.piece_on.ensures)) ∙ c.if-is_some.false)

pub returns : goal.returns
returns c = let q = c.shifts_of-x.ensures.dates in let a = day-bits (is-fits q.first-number) in let b = day-bits (is-fits q.last-number) in
    dates-passed _ _ _ _ _ _ c.loop-k.invariant c.loop-k-test.false ∙ rw (c.day_count-count.ensures, a, b) (ap any_block (dates-all _ _ _ _ q))
