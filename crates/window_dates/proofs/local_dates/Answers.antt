-- `window_dates::local_dates` meets its contract. Assumes nothing.
use Rattle.window_dates.proofs.Fill.{zone-moved, days-are, kept-room, days-kept}
use mathlib.Core.Path.{refl}
use Rattle.laws_calendar.specs.Numbers.{gives-on}
use Rattle.window_dates.proofs.local_dates.Goals as goal

pub one_offset-offset-requires : goal.one_offset-offset-requires
one_offset-offset-requires c = (
  zone-moved _ _ _ c.part-f.ensures c.requires.0,
  c.requires.1.low,
  c.requires.1.high,
)

pub dates_by-requires : goal.dates_by-requires
dates_by-requires c =
    kept-room _ _ _ _ _ (zone-moved _ _ _ c.part-f.ensures c.requires.0) c.requires.1
    c.one_offset-offset.ensures c.if-offset-gt0.true

pub returns-then-offset-gt0 : goal.returns-then-offset-gt0
returns-then-offset-gt0 c =
    days-kept _ _ _ _ _ _ _ c.part-f.ensures c.requires.0 c.requires.1
    c.one_offset-offset.ensures c.if-offset-gt0.true c.dates_by.ensures.0 c.dates_by.ensures.1 c.dates_by.ensures.2

pub first_date-first-requires : goal.first_date-first-requires
first_date-first-requires c = (zone-moved _ _ _ c.part-f.ensures c.requires.0, c.requires.1.low)

pub last_date-last-requires : goal.last_date-last-requires
last_date-last-requires c = (
  zone-moved _ _ _ c.part-f.ensures c.requires.0,
  c.requires.1.high,
)

pub returns : goal.returns
returns c =
    days-are _ _ _ _ _ _ c.part-f.ensures c.requires.0
    c.requires.1 (gives-on c.first_date-first.type_inv c.first_date-first.ensures refl) (gives-on c.last_date-last.type_inv c.last_date-last.ensures refl) c.one_offset-offset.ensures
