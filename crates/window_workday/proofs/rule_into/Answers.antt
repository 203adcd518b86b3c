-- `window_workday::rule_into` meets its contract. Assumes nothing.
use mathlib.Core.Path.{◌∙◌, ap₂}
use native.Mathlib.Omega.{arith}
use mir.Facts.{to_z-of_z}
use Rattle.laws_calendar.specs.Numbers.{is-fits, day-bits}
use Rattle.zone_local.specs.Dates.{till_time}
use Rattle.window_dates.proofs.Whole.{window-longer}
use Rattle.window_piece.proofs.Fills.{filled-as, filled_more, ready-less}
use Rattle.window_piece.proofs.Frames.{few-dates, few-count, offset-small}
use Rattle.window_workday.proofs.Dates.{rule-plain}
use Rattle.window_workday.proofs.rule_into.Goals as goal

pub local_dates-days-requires : goal.local_dates-days-requires
local_dates-days-requires c = (c.requires.0.opened, window-longer _ _ c.requires.1)

pub frame_of-f-requires : goal.frame_of-f-requires
frame_of-f-requires c = (window-longer _ _ c.requires.1, offset-small _ _ _ _ _ c.requires.0.opened (window-longer _ _ c.requires.1) c.local_dates-days.ensures, c.local_dates-days.ensures.first-number)

pub dates_into-requires : goal.dates_into-requires
dates_into-requires c = ((c.requires.0, window-longer _ _ c.requires.1, c.local_dates-days.ensures), ready-less _ _ _ _ (few-count _ _ _ (few-dates _ _ _ _ _ c.requires.0.opened c.requires.1 c.local_dates-days.ensures)) c.requires.2)

pub returns-then-f-eq0 : goal.returns-then-f-eq0
returns-then-f-eq0 c = filled_more _ _ _ _ _ _ _ _ (few-count _ _ _ (few-dates _ _ _ _ _ c.requires.0.opened c.requires.1 c.local_dates-days.ensures)) c.dates_into.ensures

pub time_in-a-requires : goal.time_in-a-requires
time_in-a-requires c = c.requires.0.from

pub time_in-requires : goal.time_in-requires
time_in-requires c = c.requires.0.to

pub till-b-requires : goal.till-b-requires
till-b-requires c = c.time_in.ensures.1

pub day_count-count-requires : goal.day_count-count-requires
day_count-count-requires c = let q = c.local_dates-days.ensures in rw (to_z-of_z (is-fits q.first-number), to_z-of_z (is-fits q.last-number)) (q.first-number, q.last-number)

pub plain_into-requires : goal.plain_into-requires
plain_into-requires c = let q = c.local_dates-days.ensures in let a = day-bits (is-fits q.first-number) in let b = day-bits (is-fits q.last-number) in
    let k = c.day_count-count.ensures in let f = few-dates _ _ _ _ _ c.requires.0.opened c.requires.1 q in
    rw (to_z-of_z (is-fits q.first-number)) ((c.frame_of-f.ensures.close, omega (arith, c.time_in-a.ensures.1), c.till-b.ensures.1, omega arith, q.first-number, omega (arith, q.high, q.first-number.small)), ready-less _ _ _ _ (omega arith) c.requires.2)

pub returns : goal.returns
returns c = let q = c.local_dates-days.ensures in let a = day-bits (is-fits q.first-number) in let b = day-bits (is-fits q.last-number) in
    filled_more _ _ _ _ _ _ _ _ (few-count _ _ _ (few-dates _ _ _ _ _ c.requires.0.opened c.requires.1 q))
    (filled-as _ _ _ _ _ _ _ _ _
    (rule-plain _ _ _ (window-longer _ _ c.requires.1) _ c.frame_of-f.ensures (omega (arith, c.if-f-eq0.false)) c.args.pack.now c.args.r _ _ c.requires.0 q c.time_in-a.ensures.0 (c.till-b.ensures.0 ∙ ap₂ till_time c.time_in-a.ensures.0 c.time_in.ensures.0))
    (rw (c.day_count-count.ensures, a, b) at c.plain_into.ensures))
