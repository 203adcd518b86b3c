-- `zone_changes::month_day` meets its contract. Assumes nothing.
use mathlib.Core.Path.{◌≡◌, ◌∙◌, ap}
use Prim.Native.Nat.{◌+◌, ◌≤◌}
use native.Mathlib.Omega.{arith}
use Rattle.model.specs.Calendar.{days_before_year}
use Rattle.model.specs.DayNumber.{signed_day}
use Rattle.laws_calendar.specs.Numbers.{gives-on, bits-day, bits_is}
use Rattle.zone_changes.proofs.Days.{year-small, start_small, length-big, month-on, month-back}
use Rattle.zone_changes.proofs.month_day.Goals.{After-later-first}
use Rattle.zone_changes.proofs.month_day.Goals as goal

-- the first day of the month
month-first :
    (c : After-later-first) →
    (c.later-first.result ≡ signed_day (days_before_year c.args.year + c.days_before_month.result))
    × (days_before_year c.args.year + c.days_before_month.result ≤ 7600000)
month-first c =
    let s = year-small c.args.year c.requires.0 in
    let t = start_small c.is_leap-leap.result c.args.m c.requires.2 in
    (c.later-first.ensures ∙ ap signed_day (omega (arith, bits-day c.year_start.ensures (omega arith))), omega arith)

pub later-first-requires : goal.later-first-requires
later-first-requires c = let s = year-small c.args.year c.requires.0 in
    let t = start_small c.is_leap-leap.result c.args.m c.requires.2 in
    let e = c.year_start.ensures in
    (bits_is e (omega arith), omega (arith, bits-day e (omega arith)))

pub weekday_of-requires : goal.weekday_of-requires
weekday_of-requires c = let f = month-first (goal.at.weekday_of-requires c).After-later-first in bits_is f.0 (omega arith)

pub later-requires : goal.later-requires
later-requires c = let f = month-first (goal.at.later-requires c).After-later-first in (bits_is f.0 (omega arith), omega (arith, bits-day f.0 (omega arith), c.requires.3))

pub returns-then-n-days_in_month : goal.returns-then-n-days_in_month
returns-then-n-days_in_month c = let f = month-first (goal.at.returns-then-n-days_in_month c).After-later-first in gives-on c.later.type_inv c.later.ensures (month-on c.args.year c.args.m c.args.w c.args.d c.is_leap-leap.ensures c.days_before_month.ensures (bits-day f.0 (omega arith)) c.weekday_of.ensures c.days_in_month.ensures c.if-n-days_in_month.true)

pub overflow_sub-n-3 : goal.overflow_sub-n-3
overflow_sub-n-3 c = omega (arith, length-big c.is_leap-leap.result c.args.m c.requires.1 c.requires.2)

pub later-requires-2 : goal.later-requires-2
later-requires-2 c = let f = month-first (goal.at.later-requires-2 c).After-later-first in (bits_is f.0 (omega arith), omega (arith, bits-day f.0 (omega arith), c.requires.3))

pub returns : goal.returns
returns c = let f = month-first (goal.at.returns c).After-later-first in let g = length-big c.is_leap-leap.result c.args.m c.requires.1 c.requires.2 in gives-on c.later-2.type_inv c.later-2.ensures (month-back c.args.year c.args.m c.args.w c.args.d c.is_leap-leap.ensures c.days_before_month.ensures (bits-day f.0 (omega arith)) c.weekday_of.ensures c.days_in_month.ensures c.if-n-days_in_month.false (omega arith))
