-- `ticket::held` meets its contract. Assumes nothing.
use Rattle.ticket.specs.Sound.{held-becomes}
use Rattle.ticket.proofs.held.Goals as goal

-- src/lib.rt:148:1
pub returns : goal.returns
returns c = held-becomes _ _ c.requires.0 _ c.requires.1
