-- `zone_changes::julian_day` meets its contract. Assumes nothing.
use native.Mathlib.Omega.{arith}
use borrow.Author.Tests.{not-true, not-false}
use Rattle.laws_calendar.specs.Numbers.{gives-on, bits-day, bits_is}
use Rattle.zone_changes.proofs.Days.{year-small, julian-common, julian-early, julian-late}
use Rattle.zone_changes.proofs.julian_day.Goals as goal

pub later-requires : goal.later-requires
later-requires c = let s = year-small _ c.requires.0 in let e = c.year_start-first.ensures in (bits_is e (omega arith), omega (arith, bits-day e (omega arith)))

pub returns-then-not-is_leap : goal.returns-then-not-is_leap
returns-then-not-is_leap c = let s = year-small _ c.requires.0 in let d = bits-day c.year_start-first.ensures (omega arith) in
    gives-on c.later.type_inv c.later.ensures (omega (arith, julian-common _ c.args.n c.is_leap.ensures (not-true _ c.if-not-is_leap.true-raw)))

pub later-requires-then-n-lt-LEAP_DAY : goal.later-requires-then-n-lt-LEAP_DAY
later-requires-then-n-lt-LEAP_DAY c = let s = year-small _ c.requires.0 in let e = c.year_start-first.ensures in (bits_is e (omega arith), omega (arith, bits-day e (omega arith)))

pub returns-then-n-lt-LEAP_DAY : goal.returns-then-n-lt-LEAP_DAY
returns-then-n-lt-LEAP_DAY c = let s = year-small _ c.requires.0 in let d = bits-day c.year_start-first.ensures (omega arith) in
    gives-on c.later-then-n-lt-LEAP_DAY.type_inv c.later-then-n-lt-LEAP_DAY.ensures (omega (arith, julian-early _ c.args.n c.is_leap.ensures (not-false _ c.if-not-is_leap.false-raw) c.if-n-lt-LEAP_DAY.true))

pub later-requires-2 : goal.later-requires-2
later-requires-2 c = let s = year-small _ c.requires.0 in let e = c.year_start-first.ensures in (bits_is e (omega arith), omega (arith, bits-day e (omega arith)))

pub returns : goal.returns
returns c = let s = year-small _ c.requires.0 in let d = bits-day c.year_start-first.ensures (omega arith) in
    gives-on c.later-2.type_inv c.later-2.ensures (omega (arith, julian-late _ c.args.n c.is_leap.ensures (not-false _ c.if-not-is_leap.false-raw) c.if-n-lt-LEAP_DAY.false))
