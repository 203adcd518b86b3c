-- `civil::year_of` meets its contract.
use mathlib.Core.Path.{refl}
use native.Mathlib.Omega.{arith}
use Prim.Native.Nat.{ℕ, ◌<◌, ◌≤◌}
use mir.Facts.{to_z-of_z}
use Rattle.model.specs.Calendar.{days_before_year}
use Rattle.model.specs.DayNumber.{day_of, signed_day}
use Rattle.laws_calendar.specs.Dates.{after_first}
use Rattle.laws_calendar.specs.Years.{dby-hi}
use Rattle.laws_calendar.specs.Numbers.{numbered, start-day, day-bits, bits-day, bits_is, told-before, told-not}
use Rattle.civil.specs.Formulas.{year-early, year-late}
use Rattle.civil.proofs.year_of.Goals as goal

pub days_from-requires : goal.days_from-requires
unfolding signed_day day_of
days_from-requires c = rw (to_z-of_z c.ranges.day) (record { back = refl; small = omega arith }, c.requires.number, omega (arith, start-day))

pub overflow_add-e : goal.overflow_add-e
overflow_add-e c = omega (arith, start-day, day-bits c.ranges.day, c.requires.below)

pub overflow_mul-e : goal.overflow_mul-e
overflow_mul-e c = omega (arith, start-day, day-bits c.ranges.day, c.requires.below)

pub year_start-requires : goal.year_start-requires
year_start-requires c = omega (arith, start-day, day-bits c.ranges.day, c.requires.below)

-- the first day of the year that is tried
first-day : (e : ℕ) → e ≤ 20801 → days_before_year e < numbered
first-day e h = omega (arith, dby-hi e)

pub precedes-requires : goal.precedes-requires
precedes-requires c = rw (to_z-of_z c.ranges.day) (
  c.requires.number,
  bits_is c.year_start.ensures (first-day _ (omega (arith, start-day, day-bits c.ranges.day, c.requires.below))),
)

pub overflow_sub-result : goal.overflow_sub-result
overflow_sub-result c =
    let f = c.ranges.day in
    let d = day-bits f in
    let p = c.requires.below in
    let e = bits-day c.year_start.ensures (first-day _ (omega (arith, start-day))) in
    let b = told-before _ _ c.precedes.ensures c.if-precedes.true in
    after_first (day_of c.args.day) _ (omega arith)

pub returns-then-precedes : goal.returns-then-precedes
returns-then-precedes c =
    let f = c.ranges.day in
    let d = day-bits f in
    let p = c.requires.below in
    let e = bits-day c.year_start.ensures (first-day _ (omega (arith, start-day))) in
    let b = told-before _ _ c.precedes.ensures c.if-precedes.true in
    year-early (day_of c.args.day) c.days_from.result (omega (arith, start-day)) (omega arith)

pub returns : goal.returns
returns c =
    let f = c.ranges.day in
    let d = day-bits f in
    let p = c.requires.below in
    let e = bits-day c.year_start.ensures (first-day _ (omega (arith, start-day))) in
    let b = told-not _ _ c.precedes.ensures c.if-precedes.false in
    year-late (day_of c.args.day) c.days_from.result (omega (arith, start-day)) (omega arith)
