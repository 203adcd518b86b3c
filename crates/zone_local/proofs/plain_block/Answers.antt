-- `zone_local::plain_block` meets its contract. Assumes nothing.
use mathlib.Core.Path.{sym, ◌∙◌}
use native.Mathlib.Omega.{arith}
use mir.Facts.{to_z-of_z}
use Rattle.model.specs.DayNumber.{day_of}
use Rattle.civil.specs.Dates.{time_in}
use Rattle.laws_calendar.specs.Numbers.{day-bits}
use Rattle.zone_local.proofs.Facts.{day-number, plain-start, plain-same, plain-next}
use Rattle.zone_local.proofs.plain_block.Goals as goal

pub midnight-requires : goal.midnight-requires
midnight-requires c = rw (to_z-of_z c.ranges.day) (day-number c.requires.1)

pub returns-then-is_before : goal.returns-then-is_before
returns-then-is_before c = (plain-start c.args.o (day_of c.args.day) c.args.from.seconds c.args.from.nanos _ c.requires.0 c.requires.1.low (omega (arith, day-bits c.ranges.day, c.midnight.ensures)), plain-same (time_in c.args.from) c.args.o (day_of c.args.day) c.args.to.seconds c.args.to.nanos _ c.requires.0 c.requires.1.low (omega (arith, day-bits c.ranges.day, c.midnight.ensures)) (sym c.is_before.ensures ∙ c.if-is_before.true))

pub returns : goal.returns
returns c = (plain-start c.args.o (day_of c.args.day) c.args.from.seconds c.args.from.nanos _ c.requires.0 c.requires.1.low (omega (arith, day-bits c.ranges.day, c.midnight.ensures)), plain-next (time_in c.args.from) c.args.o (day_of c.args.day) c.args.to.seconds c.args.to.nanos _ c.requires.0 c.requires.1.low (omega (arith, day-bits c.ranges.day, c.midnight.ensures)) (sym c.is_before.ensures ∙ c.if-is_before.false))
