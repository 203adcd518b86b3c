-- `window_marks::is_on` meets its contract. Assumes nothing.
use Rattle.window_marks.proofs.Taken.{on-weekday, on-written, fits-written}
use Rattle.zone_local.proofs.Facts.{day-number}
use mir.Facts.{to_z-of_z}
use Rattle.window_marks.proofs.is_on.Goals as goal

pub applies-requires : goal.applies-requires
applies-requires c = rw (to_z-of_z c.ranges.day) (day-number c.requires.1)

pub has_day-requires : goal.has_day-requires
has_day-requires c = rw (to_z-of_z c.ranges.day) (fits-written _ _ c.in-Written.is c.requires.0, c.requires.1)

pub returns-in-Weekdays : goal.returns-in-Weekdays
returns-in-Weekdays c = on-weekday _ _ c.in-Weekdays.is (rw (to_z-of_z c.ranges.day) at c.applies.ensures)

pub returns-in-Written : goal.returns-in-Written
returns-in-Written c = on-written _ _ c.in-Written.is (rw (to_z-of_z c.ranges.day) at c.has_day.ensures)
