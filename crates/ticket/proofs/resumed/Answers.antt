-- `ticket::resumed` meets its contract. Assumes nothing.
use Rattle.ticket.specs.Sound.{resumed-becomes}
use Rattle.ticket.proofs.resumed.Goals as goal

-- src/lib.rt:163:1
pub returns : goal.returns
returns c = resumed-becomes _ _ (c.requires)
