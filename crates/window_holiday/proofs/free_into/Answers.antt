-- `window_holiday::free_into` meets its contract. Assumes nothing.
use Rattle.std.proofs.Common.{arith, to_z-of_z}
use Rattle.model.specs.DayNumber.{day_of}
use Rattle.laws_calendar.specs.Numbers.{is-fits, day-bits}
use Rattle.instant.specs.Instant.{nanos}
use Rattle.zone_local.proofs.Facts.{day-number}
use Rattle.window_dates.proofs.Fill.{zone-moved, local-date-in, kept-moved, in_moved, closed-piece}
use Rattle.window_piece.proofs.Fills.{filled-as, filled-same}
use Rattle.window_piece.proofs.Frames.{shown-inside, free-plain}
use Rattle.window_holiday.proofs.free_into.Goals as goal

pub piece_by-x-requires : goal.piece_by-x-requires
piece_by-x-requires c = rw (to_z-of_z c.ranges.day) (zone-moved _ _ _ c.part-file.ensures c.requires.0.0, local-date-in _ _ _ _ _ c.requires.0.2 c.requires.0.4 c.requires.0.5, record { seconds = omega arith; nanos = omega arith }, record { seconds = omega arith; nanos = omega arith }, kept-moved _ _ c.args.c.zone _ _ _ c.part-file.ensures c.requires.0.2, in_moved _ _ c.args.c.zone _ _ _ _ c.part-file.ensures c.requires.0.1 c.requires.0.2 c.requires.0.4 c.requires.0.5)

pub piece_into-requires : goal.piece_into-requires
piece_into-requires c = (shown-inside c.args.lo c.args.hi _ _ (day_of c.args.day) c.requires.0.1 (closed-piece _ _ c.args.c.zone (nanos c.args.lo) (nanos c.args.hi) (day_of c.args.day) _ c.part-file.ensures (rw (to_z-of_z c.ranges.day) at c.piece_by-x.ensures)), c.requires.1)

pub returns-then-f-eq0 : goal.returns-then-f-eq0
returns-then-f-eq0 c = filled-same _ _ _ _ _ _ _ _ (closed-piece _ _ c.args.c.zone (nanos c.args.lo) (nanos c.args.hi) (day_of c.args.day) _ c.part-file.ensures (rw (to_z-of_z c.ranges.day) at c.piece_by-x.ensures)) c.piece_into.ensures

pub days_from-requires : goal.days_from-requires
days_from-requires c = let q = c.requires.0.2 in rw (to_z-of_z (is-fits q.first-number), to_z-of_z c.ranges.day) (q.first-number, day-number (local-date-in _ _ _ _ _ q c.requires.0.4 c.requires.0.5), c.requires.0.4)

pub overflow_mul-k : goal.overflow_mul-k
overflow_mul-k c = let q = c.requires.0.2 in let d = day-bits c.ranges.day in let e = day-bits (is-fits q.first-number) in omega (arith, q.few, c.requires.0.5)

pub overflow_add-k : goal.overflow_add-k
overflow_add-k c = let q = c.requires.0.2 in let d = day-bits c.ranges.day in let e = day-bits (is-fits q.first-number) in omega (arith, q.few, c.requires.0.5, c.requires.0.3.close)

pub overflow_add-k-2 : goal.overflow_add-k-2
overflow_add-k-2 c = let q = c.requires.0.2 in let d = day-bits c.ranges.day in let e = day-bits (is-fits q.first-number) in omega (arith, q.few, c.requires.0.5, c.requires.0.3.close)

pub span_into-requires : goal.span_into-requires
span_into-requires c = c.requires.1

pub returns : goal.returns
returns c = let q = c.requires.0.2 in let d = day-bits c.ranges.day in let e = day-bits (is-fits q.first-number) in
    filled-as _ _ _ _ _ _ _ _ _ (free-plain _ _ _ c.requires.0.1 _ c.requires.0.3 (omega (arith, c.if-f-eq0.false)) _ _ c.requires.0.0 q _ c.requires.0.4 c.requires.0.5) (rw (c.days_from.ensures, d, e) at c.span_into.ensures)
