-- `walk_skip::nearer` meets its contract: by its five ways. Assumes nothing.
use mathlib.Core.Path.{◌≡◌}
use mathlib.Core.Bool.{true}
use borrow.Author.Tests.{not-true, not-false}
use Rattle.model.specs.DayNumber.{day_of}
use Rattle.laws_calendar.specs.Numbers.{IsDayNumber}
use Rattle.walk_skip.specs.Repeating.{is_met}
use Rattle.walk_skip.proofs.Near.{number-kept, met-told, near-only, near-outside, near_first, near-further, near-nearer}
use Rattle.walk_skip.proofs.nearer.Goals as goal

pub returns-in_default : goal.returns-in_default
returns-in_default c = near-only _ _ c.requires.1 c.in_default.is

pub meets-requires : goal.meets-requires
meets-requires c = (number-kept c.requires.0, number-kept (c.requires.2.number _ c.in-Some.is))

pub returns-then-not-meets : goal.returns-then-not-meets
returns-then-not-meets c = near-outside _ _ c.in-Some.is c.requires.1 (met-told c.args.back c.requires.0 (c.requires.2.number _ c.in-Some.is) c.meets.ensures (not-true _ c.if-not-meets.true-raw))

pub returns-in_default-near : goal.returns-in_default-near
returns-in_default-near c = near_first _ _ c.in-Some.is (met-told c.args.back c.requires.0 (c.requires.2.number _ c.in-Some.is) c.meets.ensures (not-false _ c.if-not-meets.false-raw)) c.requires.2 c.in_default-near.is

pub meets-requires-2 : goal.meets-requires-2
meets-requires-2 c = (number-kept (c.requires.1.number _ c.in-Some-near.is), number-kept (c.requires.2.number _ c.in-Some.is))

pub returns-then-meets : goal.returns-then-meets
returns-then-meets c = near-further _ _ c.in-Some.is (met-told c.args.back c.requires.0 (c.requires.2.number _ c.in-Some.is) c.meets.ensures (not-false _ c.if-not-meets.false-raw)) c.in-Some-near.is c.requires.1 (met-told c.args.back (c.requires.1.number _ c.in-Some-near.is) (c.requires.2.number _ c.in-Some.is) c.meets-2.ensures c.if-meets.true)

pub returns : goal.returns
returns c = near-nearer _ _ c.in-Some.is (met-told c.args.back c.requires.0 (c.requires.2.number _ c.in-Some.is) c.meets.ensures (not-false _ c.if-not-meets.false-raw)) c.in-Some-near.is c.requires.2 (met-told c.args.back (c.requires.1.number _ c.in-Some-near.is) (c.requires.2.number _ c.in-Some.is) c.meets-2.ensures c.if-meets.false)
