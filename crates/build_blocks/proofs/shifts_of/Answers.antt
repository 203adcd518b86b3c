-- `build_blocks::shifts_of` meets its contract. Assumes nothing.
use Rattle.zone_local.specs.Dates.{till_time}
use mathlib.Core.Path.{◌∙◌, ap₂}
use Rattle.window_piece.proofs.Frames.{offset-small}
use Rattle.build_blocks.proofs.shifts_of.Goals as goal

pub frame_of-frame-requires : goal.frame_of-frame-requires
frame_of-frame-requires c = (c.requires.1, offset-small _ _ _ _ _ c.requires.0.opened c.requires.1 c.local_dates-days.ensures, c.local_dates-days.ensures.first-number)

pub returns : goal.returns
returns c = record { dates = c.local_dates-days.ensures; framed = c.frame_of-frame.ensures; from_is = c.time_in-from.ensures.0; to_is = c.till-to.ensures.0 ∙ ap₂ till_time c.time_in-from.ensures.0 c.time_in.ensures.0; early = c.time_in-from.ensures.1; soon = c.till-to.ensures.1 }
