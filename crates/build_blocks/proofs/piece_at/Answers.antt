-- `build_blocks::piece_at` meets its contract. Assumes nothing.
use mathlib.Core.Path.{◌∙◌, ap}
use native.Mathlib.Omega.{arith}
use mir.Facts.{to_z-of_z}
use Rattle.model.specs.DayNumber.{day_of}
use Rattle.model.specs.Walk.{onward}
use Rattle.laws_calendar.specs.Numbers.{is-fits, day-bits}
use Rattle.instant.specs.Instant.{nanos}
use Rattle.rule.specs.Rules.{rule_is}
use Rattle.zone_local.proofs.Facts.{day-number}
use Rattle.window_dates.proofs.Fill.{local-date-in}
use Rattle.window_piece.proofs.Frames.{shown-inside}
use Rattle.build_blocks.proofs.Pieces.{piece-plain}
use Rattle.build_blocks.proofs.piece_at.Goals as goal

pub away-requires : goal.away-requires
away-requires c = shown-inside _ _ _ (rule_is c.args.pack.now c.args.r) _ c.requires.1 c.piece_of.ensures

pub returns-then-f-eq0 : goal.returns-then-f-eq0
returns-then-f-eq0 c = rw (to_z-of_z c.ranges.day) at (c.away.ensures ∙ ap (onward (nanos c.args.lo)) c.piece_of.ensures)

pub days_from-requires : goal.days_from-requires
days_from-requires c = let q = c.requires.2.dates in rw (to_z-of_z (is-fits q.first-number), to_z-of_z c.ranges.day) (q.first-number, day-number (local-date-in _ _ _ _ _ q c.requires.3 c.requires.4), c.requires.3)

pub overflow_mul-k : goal.overflow_mul-k
overflow_mul-k c = let q = c.requires.2.dates in let d = day-bits c.ranges.day in let e = day-bits (is-fits q.first-number) in omega (arith, q.few, c.requires.4)

pub overflow_add-k : goal.overflow_add-k
overflow_add-k c = let q = c.requires.2.dates in let d = day-bits c.ranges.day in let e = day-bits (is-fits q.first-number) in omega (arith, q.few, c.requires.4, c.requires.2.framed.close)

pub overflow_add-k-2 : goal.overflow_add-k-2
overflow_add-k-2 c = let q = c.requires.2.dates in let d = day-bits c.ranges.day in let e = day-bits (is-fits q.first-number) in omega (arith, q.few, c.requires.4, c.requires.2.framed.close, c.requires.2.early)

pub overflow_add-k-3 : goal.overflow_add-k-3
overflow_add-k-3 c = let q = c.requires.2.dates in let d = day-bits c.ranges.day in let e = day-bits (is-fits q.first-number) in omega (arith, q.few, c.requires.4, c.requires.2.framed.close, c.requires.2.soon)

pub returns : goal.returns
returns c = let q = c.requires.2.dates in let d = day-bits c.ranges.day in let e = day-bits (is-fits q.first-number) in
    piece-plain _ _ _ _ _ c.requires.0 c.requires.1 c.requires.2 (day_of c.args.day) _ (omega (arith, c.if-f-eq0.false)) c.requires.3 c.requires.4 (omega (arith, c.days_from.ensures)) _ c.clipped.ensures
