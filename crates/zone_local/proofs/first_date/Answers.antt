-- `zone_local::first_date` meets its contract. Assumes nothing.
use native.Mathlib.Omega.{arith}
use mathlib.Core.Path.{◌∙◌, refl}
use mir.Facts.{to_z-of_z}
use Rattle.model.specs.DayNumber.{signed_day, day_of}
use Rattle.laws_calendar.specs.Numbers.{gives-on, is-fits, day-given, day-bits, told-before, told-not}
use Rattle.zone_local.proofs.Facts.{first_back, first-here, third-day}
use Rattle.zone_local.proofs.first_date.Goals as goal

pub precedes-requires : goal.precedes-requires
unfolding signed_day day_of
precedes-requires c = rw (to_z-of_z (is-fits c.local_day-d.ensures.1)) (c.local_day-d.ensures.1, record { back = refl; small = omega arith })

pub returns-then-precedes : goal.returns-then-precedes
returns-then-precedes c = let d = c.local_day-d in gives-on d.type_inv d.ensures.0 (first-here _ _ _ refl (omega (arith, third-day, day-given d.ensures.0, day-bits (is-fits d.ensures.1), told-before _ _ c.precedes.ensures c.if-precedes.true)))

pub earlier-requires : goal.earlier-requires
earlier-requires c = let d = c.local_day-d in rw (to_z-of_z (is-fits d.ensures.1)) (d.ensures.1, omega (arith, third-day, day-bits (is-fits d.ensures.1), told-not _ _ c.precedes.ensures c.if-precedes.false))

pub returns : goal.returns
returns c = let d = c.local_day-d in gives-on c.earlier.type_inv c.earlier.ensures (first_back _ _ _ (day-bits (is-fits d.ensures.1) ∙ day-given d.ensures.0) (omega (arith, third-day, told-not _ _ c.precedes.ensures c.if-precedes.false)))
