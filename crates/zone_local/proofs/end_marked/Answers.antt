-- `zone_local::end_marked` meets its contract. Assumes nothing.
use mathlib.Core.Path.{◌∙◌, sym, refl}
use native.Mathlib.Omega.{arith}
use mir.Facts.{to_z-of_z}
use Rattle.model.specs.DayNumber.{day_of, signed_day}
use Rattle.laws_calendar.specs.Numbers.{day-bits, bits-day, told-before, told-not}
use Rattle.zone_local.proofs.Facts.{day-number, last-day, end_same, end-next, end-last, end-mark-same, end-mark-next, end-mark-last}
use Rattle.zone_local.proofs.end_marked.Goals as goal

pub returns-then-is_before : goal.returns-then-is_before
returns-then-is_before c = let t = sym c.is_before.ensures ∙ c.if-is_before.true in let r = rw (to_z-of_z c.ranges.day) at c.resolve_marked.ensures in (end_same _ _ _ _ _ t r.0, end-mark-same _ _ _ _ _ t r.2)

pub precedes-requires : goal.precedes-requires
unfolding signed_day day_of
precedes-requires c = rw (to_z-of_z c.ranges.day) (day-number c.requires.1, record { back = refl; small = omega arith })

pub later-requires : goal.later-requires
later-requires c = rw (to_z-of_z c.ranges.day) (day-number c.requires.1, omega (arith, c.requires.1.high))

pub resolve_marked-requires-then-precedes : goal.resolve_marked-requires-then-precedes
resolve_marked-requires-then-precedes c = let f = c.ranges.day in
    let t = told-before _ _ c.precedes.ensures c.if-precedes.true in
    let d = bits-day c.later.ensures (omega (arith, day-bits f, c.requires.1.high)) in
    (c.requires.0, record { low = omega (arith, d, day-bits f, c.requires.1.low); high = omega (arith, d, day-bits f, last-day) }, c.requires.3)

pub returns-then-precedes : goal.returns-then-precedes
returns-then-precedes c = let f = c.ranges.day in
    let d = bits-day c.later.ensures (omega (arith, day-bits f, c.requires.1.high)) in
    let t = sym c.is_before.ensures ∙ c.if-is_before.false in
    let p = told-before _ _ c.precedes.ensures c.if-precedes.true in
    let r = rw (d, day-bits f) at c.resolve_marked-then-precedes.ensures in
    (end-next _ _ _ (day_of c.args.day) _ t (omega (arith, day-bits f, last-day, p)) r.0, end-mark-next _ _ _ (day_of c.args.day) _ t (omega (arith, day-bits f, last-day, p)) r.2)

pub returns : goal.returns
returns c = let d = day_of c.args.day in
    let t = sym c.is_before.ensures ∙ c.if-is_before.false in
    let p = told-not _ _ c.precedes.ensures c.if-precedes.false in
    (end-last _ _ _ d _ t (omega (arith, day-bits c.ranges.day, last-day, p)) refl, end-mark-last _ _ _ d _ t (omega (arith, day-bits c.ranges.day, last-day, p)) refl)
