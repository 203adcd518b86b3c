-- `zone_changes::first_year` meets its contract. Assumes nothing.
use mathlib.Core.Path.{◌≡◌, ◌∙◌, ap}
use native.Mathlib.Omega.{arith}
use Rattle.model.specs.Calendar.{year_of}
use Rattle.model.specs.Zone.{year_at}
use Rattle.laws_calendar.specs.Numbers.{bits-day, bits_is}
use Rattle.zone_changes.proofs.Days.{years-in}
use Rattle.zone_changes.proofs.first_year.Goals.{After-year_of}
use Rattle.zone_changes.proofs.first_year.Goals as goal

-- the year of the second
year-is : (c : After-year_of) → c.year_of.result ≡ year_at c.args.u
year-is c = c.year_of.ensures ∙ ap year_of (bits-day c.day_at.ensures (omega (arith, c.requires)))

pub year_of-requires : goal.year_of-requires
year_of-requires c = let e = c.day_at.ensures in record { number = bits_is e (omega (arith, c.requires)); below = omega (arith, c.requires, bits-day e (omega (arith, c.requires))) }

pub returns : goal.returns
returns c = let y = year-is (goal.at.returns c).After-year_of in (omega arith, omega (arith, years-in c.args.u c.requires y))
