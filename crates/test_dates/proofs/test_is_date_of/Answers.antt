-- `test_dates::test_is_date_of` meets its contract. Assumes nothing.
use mathlib.Core.Path.{◌∙◌, ap}
use borrow.Author.Tests.{eq-eqb}
use mir.Syntax.{w32}
use mir.Val.{of_z}
use mir.Facts.{to_z-of_z}
use Rattle.test_dates.specs.DayLaws.{too-low, too-high, in-calendar, other-weekday, other-year, other-month, other-day, has-day, number-back, this-date}
use Rattle.test_dates.proofs.test_is_date_of.Goals as goal

pub returns-then-number-lt-FIRST : goal.returns-then-number-lt-FIRST
returns-then-number-lt-FIRST c = let f = to_z-of_z c.ranges.number in too-low c.args.number c.args.weekday c.args.year c.args.month c.args.day (rw f at c.if-number-lt-FIRST.true)

pub returns-then-number-gt-LAST : goal.returns-then-number-gt-LAST
returns-then-number-gt-LAST c = let f = to_z-of_z c.ranges.number in too-high c.args.number c.args.weekday c.args.year c.args.month c.args.day (rw f at c.if-number-lt-FIRST.false) (rw f at c.if-number-gt-LAST.true)

pub weekday_of-requires : goal.weekday_of-requires
weekday_of-requires c = let f = to_z-of_z c.ranges.number in rw f (in-calendar c.args.number c.args.weekday c.args.year c.args.month c.args.day (rw f at c.if-number-lt-FIRST.false) (rw f at c.if-number-gt-LAST.false)).number

pub returns-then-weekday_of-weekday : goal.returns-then-weekday_of-weekday
returns-then-weekday_of-weekday c = let f = to_z-of_z c.ranges.number in other-weekday c.args.number c.args.weekday c.args.year c.args.month c.args.day (rw f at c.if-number-lt-FIRST.false) (rw f at c.if-number-gt-LAST.false) (rw f at c.weekday_of.ensures) c.if-weekday_of-weekday.true

pub date_of-d-requires : goal.date_of-d-requires
date_of-d-requires c = let f = to_z-of_z c.ranges.number in rw f (in-calendar c.args.number c.args.weekday c.args.year c.args.month c.args.day (rw f at c.if-number-lt-FIRST.false) (rw f at c.if-number-gt-LAST.false))

pub returns-then-d-year : goal.returns-then-d-year
returns-then-d-year c = let f = to_z-of_z c.ranges.number in other-year c.args.number c.args.weekday c.args.year c.args.month c.args.day (rw f at c.if-number-lt-FIRST.false) (rw f at c.if-number-gt-LAST.false) (rw f at c.weekday_of.ensures) c.if-weekday_of-weekday.false (rw f at c.date_of-d.ensures) c.if-d-year.true

pub returns-then-d-month : goal.returns-then-d-month
returns-then-d-month c = let f = to_z-of_z c.ranges.number in other-month c.args.number c.args.weekday c.args.year c.args.month c.args.day (rw f at c.if-number-lt-FIRST.false) (rw f at c.if-number-gt-LAST.false) (rw f at c.weekday_of.ensures) c.if-weekday_of-weekday.false (rw f at c.date_of-d.ensures) c.if-d-year.false c.if-d-month.true

pub returns-then-d-day : goal.returns-then-d-day
returns-then-d-day c = let f = to_z-of_z c.ranges.number in other-day c.args.number c.args.weekday c.args.year c.args.month c.args.day (rw f at c.if-number-lt-FIRST.false) (rw f at c.if-number-gt-LAST.false) (rw f at c.weekday_of.ensures) c.if-weekday_of-weekday.false (rw f at c.date_of-d.ensures) c.if-d-year.false c.if-d-month.false c.if-d-day.true

pub day_number-requires : goal.day_number-requires
day_number-requires c = let f = to_z-of_z c.ranges.number in has-day c.args.number c.args.weekday c.args.year c.args.month c.args.day (rw f at c.if-number-lt-FIRST.false) (rw f at c.if-number-gt-LAST.false) (rw f at c.weekday_of.ensures) c.if-weekday_of-weekday.false (rw f at c.date_of-d.ensures) c.if-d-year.false c.if-d-month.false c.if-d-day.false

pub returns : goal.returns
returns c = let f = to_z-of_z c.ranges.number in eq-eqb _ _ (ap (of_z w32) (c.day_number.ensures ∙ number-back c.args.number c.args.weekday c.args.year c.args.month c.args.day (rw f at c.if-number-lt-FIRST.false) (rw f at c.if-number-gt-LAST.false) (rw f at c.weekday_of.ensures) c.if-weekday_of-weekday.false (rw f at c.date_of-d.ensures) c.if-d-year.false c.if-d-month.false c.if-d-day.false)) ∙ this-date c.args.number c.args.weekday c.args.year c.args.month c.args.day (rw f at c.if-number-lt-FIRST.false) (rw f at c.if-number-gt-LAST.false) (rw f at c.weekday_of.ensures) c.if-weekday_of-weekday.false (rw f at c.date_of-d.ensures) c.if-d-year.false c.if-d-month.false c.if-d-day.false
