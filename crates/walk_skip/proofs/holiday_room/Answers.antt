-- `walk_skip::holiday_room` meets its contract: by its four ways. Assumes nothing.
use native.Mathlib.Omega.{arith}
use Rattle.walk_skip.proofs.Rooms.{zone-at}
use Rattle.walk_skip.proofs.Near.{number-kept}
use Rattle.walk_skip.proofs.Spans.{Spanned, first-given, last-given, closed-ahead, closed-behind, open-ahead, open-behind}
use Rattle.walk_skip.proofs.holiday_room.Goals.{After-last_date-last}
use Rattle.walk_skip.proofs.holiday_room.Goals as goal

pub first_date-first-requires : goal.first_date-first-requires
first_date-first-requires c = (zone-at c.part-f.ensures c.requires.0.opened, c.requires.1)

pub last_date-last-requires : goal.last_date-last-requires
last_date-last-requires c = (zone-at c.part-f.ensures c.requires.0.opened, c.requires.2)

spanned : (c : After-last_date-last) → Spanned c.args.book.now c.args.pack.now c.args.h c.args.a c.args.b c.part-f.result.now c.first_date-first.result c.last_date-last.result
spanned c = record { fit = c.requires.0; from = c.requires.1; to = c.requires.2; file = c.part-f.ensures; first = c.first_date-first.ensures; last = c.last_date-last.ensures }

pub nearest_date-requires : goal.nearest_date-requires
nearest_date-requires c = (c.requires.0.inside, (last-given (spanned (goal.at.nearest_date-requires c).After-last_date-last)).0, (last-given (spanned (goal.at.nearest_date-requires c).After-last_date-last)).1)

pub returns-in_default : goal.returns-in_default
returns-in_default c = open-behind (spanned (goal.at.returns-in_default c).After-last_date-last) c.if-back.true c.nearest_date.ensures.1 c.in_default.is

pub days_behind-requires : goal.days_behind-requires
days_behind-requires c = (number-kept (c.nearest_date.ensures.0.number _ c.in-Some.is), (first-given (spanned (goal.at.days_behind-requires c).After-last_date-last)).0, c.requires.1.high)

pub returns-then-back : goal.returns-then-back
returns-then-back c = closed-behind (spanned (goal.at.returns-then-back c).After-last_date-last) c.if-back.true c.nearest_date.ensures.0 c.nearest_date.ensures.1 c.in-Some.is c.days_behind.ensures

pub nearest_date-requires-2 : goal.nearest_date-requires-2
nearest_date-requires-2 c = (c.requires.0.inside, (first-given (spanned (goal.at.nearest_date-requires-2 c).After-last_date-last)).0, (first-given (spanned (goal.at.nearest_date-requires-2 c).After-last_date-last)).1)

pub returns-in_default-nearest_date : goal.returns-in_default-nearest_date
returns-in_default-nearest_date c = open-ahead (spanned (goal.at.returns-in_default-nearest_date c).After-last_date-last) c.if-back.false c.nearest_date-2.ensures.1 c.in_default-nearest_date.is (omega arith)

pub days_ahead-requires : goal.days_ahead-requires
days_ahead-requires c = (number-kept (c.nearest_date-2.ensures.0.number _ c.in-Some-nearest_date.is), (last-given (spanned (goal.at.days_ahead-requires c).After-last_date-last)).0, c.requires.2.high)

pub returns : goal.returns
returns c = closed-ahead (spanned (goal.at.returns c).After-last_date-last) c.if-back.false c.nearest_date-2.ensures.0 c.nearest_date-2.ensures.1 c.in-Some-nearest_date.is c.days_ahead.ensures
