-- `civil::date_of` meets its contract.
use mathlib.Core.Path.{ap, ◌≡◌, ◌∙◌}
use Prim.Native.Nat.{◌-◌}
use native.Mathlib.Omega.{arith}
use mir.Facts.{to_z-of_z}
use Rattle.model.specs.Calendar.{date_of, days_before_year, year_of}
use Rattle.model.specs.DayNumber.{day_of}
use Rattle.laws_calendar.specs.Dates.{year-below, year-within, InYear, year-step}
use Rattle.laws_calendar.specs.Numbers.{day-bits, bits-day, bits_is}
use Rattle.civil.proofs.date_of.Goals.{After-days_from, After-year_of-year}
use Rattle.civil.proofs.date_of.Goals as goal

-- the year that holds the day
in-year : (c : After-year_of-year) → InYear (day_of c.args.day) c.year_of-year.result
in-year c = rw (c.year_of-year.ensures ∙ ap year_of (day-bits c.ranges.day)) (year-within _)

pub year_start-requires : goal.year_start-requires
year_start-requires c = omega (arith, year-below c.requires.below (in-year (goal.at.year_start-requires c).After-year_of-year))

pub days_from-requires : goal.days_from-requires
days_from-requires c =
    let w = in-year (goal.at.days_from-requires c).After-year_of-year in
    let s = c.requires.number.small in
    let e = c.year_start.ensures in
    rw (to_z-of_z c.ranges.day) (bits_is e (omega arith), c.requires.number, omega (arith, bits-day e (omega arith)))

-- the day as one of that year
rest : (c : After-days_from) → c.days_from.result ≡ day_of c.args.day - days_before_year c.year_of-year.result
rest c =
    let w : InYear (day_of c.args.day) c.year_of-year.result = rw (c.year_of-year.ensures ∙ ap year_of (day-bits c.ranges.day)) (year-within _) in
    let s = c.requires.number.small in
    omega (arith, day-bits c.ranges.day, bits-day c.year_start.ensures (omega arith))

pub date_in-requires : goal.date_in-requires
date_in-requires c =
    let w = in-year (goal.at.date_in-requires c).After-year_of-year in
    omega (arith, rest (goal.at.date_in-requires c).After-days_from, year-step c.year_of-year.result)

pub returns : goal.returns
unfolding date_of
returns c = c.date_in.ensures ∙ rw (rest (goal.at.returns c).After-days_from, c.year_of-year.ensures ∙ ap year_of (day-bits c.ranges.day))
