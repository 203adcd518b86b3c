-- `ticket::started` meets its contract. Assumes nothing.
use Rattle.ticket.specs.Sound.{started-becomes}
use Rattle.ticket.proofs.started.Goals as goal

-- src/lib.rt:132:1
pub returns : goal.returns
returns c = started-becomes _ (c.requires) _ c.no_marks-marks.ensures.0 c.no_marks-marks.ensures.1
