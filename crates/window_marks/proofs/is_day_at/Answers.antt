-- `window_marks::is_day_at` meets its contract. Assumes nothing.
use native.Mathlib.Omega.{arith}
use mir.Facts.{to_z-of_z}
use mathlib.Core.Path.{sym, ◌∙◌}
use Rattle.laws_calendar.specs.Numbers.{is-fits, day-bits, told-before, told-not}
use Rattle.zone_local.proofs.Facts.{day-number}
use Rattle.book_dates.proofs.Dates.{day-there}
use Rattle.window_marks.proofs.Taken.{day-none, day-other, day-same}
use Rattle.model.specs.DayNumber.{day_of}
use Rattle.window_marks.proofs.is_day_at.Goals as goal

pub returns-in_default : goal.returns-in_default
returns-in_default c = day-none _ _ (day_of c.args.day) c.date_at.ensures (omega (arith, c.requires.1.low)) c.in_default.is

pub precedes-requires : goal.precedes-requires
precedes-requires c = let n = (day-there _ _ _ (sym c.date_at.ensures ∙ c.in-Some.is)).number in rw (to_z-of_z (is-fits n), to_z-of_z c.ranges.day) (n, day-number c.requires.1)

pub returns-then-precedes : goal.returns-then-precedes
returns-then-precedes c = let n = (day-there _ _ _ (sym c.date_at.ensures ∙ c.in-Some.is)).number in let e = day-bits (is-fits n) in let f = day-bits c.ranges.day in day-other _ _ (day_of c.args.day) c.date_at.ensures _ c.in-Some.is (λ q. omega (arith, told-before _ _ c.precedes.ensures c.if-precedes.true))

pub precedes-requires-2 : goal.precedes-requires-2
precedes-requires-2 c = let n = (day-there _ _ _ (sym c.date_at.ensures ∙ c.in-Some.is)).number in rw (to_z-of_z (is-fits n), to_z-of_z c.ranges.day) (day-number c.requires.1, n)

pub returns-then-precedes-2 : goal.returns-then-precedes-2
returns-then-precedes-2 c = let n = (day-there _ _ _ (sym c.date_at.ensures ∙ c.in-Some.is)).number in let e = day-bits (is-fits n) in let f = day-bits c.ranges.day in day-other _ _ (day_of c.args.day) c.date_at.ensures _ c.in-Some.is (λ q. omega (arith, told-before _ _ c.precedes-2.ensures c.if-precedes-2.true))

pub returns : goal.returns
returns c = let n = (day-there _ _ _ (sym c.date_at.ensures ∙ c.in-Some.is)).number in let e = day-bits (is-fits n) in let f = day-bits c.ranges.day in day-same _ _ (day_of c.args.day) c.date_at.ensures _ c.in-Some.is (omega (arith, told-not _ _ c.precedes.ensures c.if-precedes.false, told-not _ _ c.precedes-2.ensures c.if-precedes-2.false))
