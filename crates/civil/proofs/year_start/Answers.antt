-- `civil::year_start` meets its contract.
use mathlib.Core.Path.{refl, ◌∙◌, ap}
use native.Mathlib.Omega.{arith}
use Rattle.model.specs.Calendar.{days_before_year}
use Rattle.model.specs.DayNumber.{signed_day, day_of}
use Rattle.laws_calendar.specs.Numbers.{start-day, bits-number}
use Rattle.civil.proofs.year_start.Goals as goal

pub later-requires : goal.later-requires
unfolding signed_day day_of
later-requires c = (record { back = refl; small = omega arith }, omega (arith, start-day, c.requires))

pub returns : goal.returns
unfolding days_before_year
returns c = bits-number (c.later.ensures ∙ ap signed_day (omega (arith, start-day))) (omega (arith, c.requires))
