-- `zone_changes::day_in` meets its contract. Assumes nothing.
use native.Mathlib.Omega.{arith}
use Rattle.laws_calendar.specs.Numbers.{gives-on, bits-day, bits_is}
use mathlib.Core.Path.{refl}
use Rattle.zone_changes.proofs.Days.{year-small, month-fits, julian-fits, plain_fits, day-is, plain-is}
use Rattle.zone_changes.proofs.day_in.Goals as goal

pub month_day-requires : goal.month_day-requires
month_day-requires c = let h = month-fits c.in-Month.is c.requires.0 in (c.requires.1, h.0, h.1, h.2, h.3, h.4)

pub julian_day-requires : goal.julian_day-requires
julian_day-requires c = let h = julian-fits c.in-Julian.is c.requires.0 in (c.requires.1, h.0, h.1)

pub later-requires : goal.later-requires
later-requires c = let s = year-small _ c.requires.1 in let f = plain_fits c.in-Plain.is c.requires.0 in let e = c.year_start.ensures in (bits_is e (omega arith), omega (arith, bits-day e (omega arith)))

pub returns-in-Month : goal.returns-in-Month
returns-in-Month c = day-is c.args.year c.in-Month.is (gives-on c.month_day.type_inv c.month_day.ensures refl)

pub returns-in-Julian : goal.returns-in-Julian
returns-in-Julian c = day-is c.args.year c.in-Julian.is (gives-on c.julian_day.type_inv c.julian_day.ensures refl)

pub returns-in-Plain : goal.returns-in-Plain
returns-in-Plain c = let s = year-small _ c.requires.1 in day-is c.args.year c.in-Plain.is (gives-on c.later.type_inv c.later.ensures (plain-is c.args.year _ (bits-day c.year_start.ensures (omega arith))))
