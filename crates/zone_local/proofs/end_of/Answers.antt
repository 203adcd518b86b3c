-- `zone_local::end_of` meets its contract. Assumes nothing.
use mathlib.Core.Path.{◌∙◌, sym, refl}
use native.Mathlib.Omega.{arith}
use mir.Facts.{to_z-of_z}
use Rattle.model.specs.DayNumber.{day_of, signed_day}
use Rattle.laws_calendar.specs.Numbers.{day-bits, bits-day, told-before, told-not}
use Rattle.zone_local.proofs.Facts.{day-number, last-day, end_same, end-next, end-last}
use Rattle.zone_local.proofs.end_of.Goals as goal

pub returns-then-is_before : goal.returns-then-is_before
returns-then-is_before c = end_same _ _ _ _ _ (sym c.is_before.ensures ∙ c.if-is_before.true) (rw (to_z-of_z c.ranges.day) at c.resolve.ensures.0)

pub precedes-requires : goal.precedes-requires
unfolding signed_day day_of
precedes-requires c = rw (to_z-of_z c.ranges.day) (day-number c.requires.1, record { back = refl; small = omega arith })

pub later-requires : goal.later-requires
later-requires c = rw (to_z-of_z c.ranges.day) (day-number c.requires.1, omega (arith, c.requires.1.high))

pub resolve-requires-then-precedes : goal.resolve-requires-then-precedes
resolve-requires-then-precedes c = let f = c.ranges.day in
    let t = told-before _ _ c.precedes.ensures c.if-precedes.true in
    let d = bits-day c.later.ensures (omega (arith, day-bits f, c.requires.1.high)) in
    (c.requires.0, record { low = omega (arith, d, day-bits f, c.requires.1.low); high = omega (arith, d, day-bits f, last-day) }, c.requires.3)

pub returns-then-precedes : goal.returns-then-precedes
returns-then-precedes c = let f = c.ranges.day in
    let d = bits-day c.later.ensures (omega (arith, day-bits f, c.requires.1.high)) in
    end-next _ _ _ (day_of c.args.day) _ (sym c.is_before.ensures ∙ c.if-is_before.false) (omega (arith, day-bits f, last-day, told-before _ _ c.precedes.ensures c.if-precedes.true)) (rw (d, day-bits f) at c.resolve-then-precedes.ensures.0)

pub returns : goal.returns
returns c = end-last _ _ _ (day_of c.args.day) _ (sym c.is_before.ensures ∙ c.if-is_before.false) (omega (arith, day-bits c.ranges.day, last-day, told-not _ _ c.precedes.ensures c.if-precedes.false)) refl
