-- `window_dates::piece_of` meets its contract. Assumes nothing.
use mir.Facts.{to_z-of_z}
use Rattle.model.specs.DayNumber.{day_of}
use Rattle.instant.specs.Instant.{nanos}
use Rattle.window_dates.proofs.Fill.{zone-moved, local-date-in, kept-moved, in_moved, rule-piece}
use Rattle.window_dates.proofs.piece_of.Goals as goal

pub piece_by-requires : goal.piece_by-requires
piece_by-requires c = rw (to_z-of_z c.ranges.day) (
  zone-moved _ _ _ c.part.ensures c.requires.0.opened,
  local-date-in _ _ _ _ _ c.requires.2 c.requires.3 c.requires.4,
  c.requires.0.from,
  c.requires.0.to,
  kept-moved _ _ c.args.r.zone _ _ _ c.part.ensures c.requires.2,
  in_moved _ _ c.args.r.zone _ _ _ _ c.part.ensures c.requires.1 c.requires.2 c.requires.3 c.requires.4,
)

pub returns : goal.returns
returns c = rule-piece (c.args.pack.now) _ (c.args.r) (nanos (c.args.lo)) (nanos (c.args.hi)) (day_of c.args.day) _ (c.part.ensures) (rw (to_z-of_z c.ranges.day) at c.piece_by.ensures)
