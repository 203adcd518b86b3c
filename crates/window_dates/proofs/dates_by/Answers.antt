-- `window_dates::dates_by` meets its contract. Assumes nothing.
use native.Mathlib.Omega.{arith}
use mathlib.Core.Path.{refl}
use Rattle.laws_calendar.specs.Numbers.{bits-day, bits_is, gives-on}
use Rattle.window_dates.proofs.dates_by.Goals as goal

pub earlier-first-requires : goal.earlier-first-requires
earlier-first-requires c = let p = c.requires in let e = c.day_at.ensures in (bits_is e (omega (arith, p.2, p.3, p.0)), omega (arith, p.1, bits-day e (omega (arith, p.2, p.3, p.0))))

pub later-last-requires : goal.later-last-requires
later-last-requires c = let p = c.requires in let e = c.day_at-2.ensures in (bits_is e (omega (arith, p.3, p.0)), omega (arith, bits-day e (omega (arith, p.3, p.0)), p.3, p.0))

pub returns : goal.returns
returns c = let p = c.requires in (gives-on c.earlier-first.type_inv c.earlier-first.ensures (omega (arith, bits-day c.day_at.ensures (omega (arith, p.2, p.3, p.0)))), gives-on c.later-last.type_inv c.later-last.ensures (omega (arith, bits-day c.day_at-2.ensures (omega (arith, p.3, p.0)))), refl)
