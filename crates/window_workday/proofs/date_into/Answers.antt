-- `window_workday::date_into` meets its contract. Assumes nothing.
use mir.Facts.{to_z-of_z}
use Rattle.model.specs.DayNumber.{day_of}
use Rattle.window_piece.proofs.Fills.{filled-same}
use Rattle.window_piece.proofs.Frames.{shown-inside}
use Rattle.rule.specs.Rules.{rule_is}
use Rattle.window_workday.proofs.date_into.Goals as goal

pub piece_of-x-requires : goal.piece_of-x-requires
piece_of-x-requires c = rw (to_z-of_z c.ranges.day) c.requires.0

pub piece_into-requires : goal.piece_into-requires
piece_into-requires c = (
  shown-inside c.args.lo c.args.hi _ (rule_is c.args.pack.now c.args.r) (day_of c.args.day) c.requires.0.1 (rw (to_z-of_z c.ranges.day) at c.piece_of-x.ensures),
  c.requires.1,
)

pub returns : goal.returns
returns c = filled-same _ _ _ _ _ _ _ _ (rw (to_z-of_z c.ranges.day) at c.piece_of-x.ensures) c.piece_into.ensures
