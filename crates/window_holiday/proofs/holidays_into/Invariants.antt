-- `window_holiday::holidays_into` meets its contract. Assumes nothing.
use Rattle.std.proofs.Common.{◌+◌, ◌*◌}
use Rattle.model.specs.Working.{holiday_rule}
use Rattle.instant.specs.Instant.{nanos}
use Rattle.rule.specs.Rules.{holidays_is}
use Rattle.zone_local.specs.Dates.{piece_of}
use Rattle.window_dates.specs.Windows.{from_day, upto_day}
use Rattle.window_holiday.proofs.Closings.{Closing}
use Rattle.window_holiday.proofs.holidays_into.Given as goal

abbrev pub invariant-loop-i : goal.invariant-loop-i
invariant-loop-i l = Closing (nanos l.lo) l.book l.c.dates l.c.count (piece_of (holiday_rule (holidays_is l.book l.pack l.c)) (nanos l.lo) (nanos l.hi)) (from_day l.days) (upto_day l.days) l.initial.out l.w l.out l.n l.i (l.c.dates + 4 * l.i)
