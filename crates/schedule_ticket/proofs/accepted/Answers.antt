-- `schedule_ticket::accepted` meets its contract. Assumes nothing.
use Rattle.schedule_ticket.proofs.Answers.{is-accepted}
use Rattle.schedule_ticket.proofs.accepted.Goals as goal

-- src/lib.rt:47:1
pub returns : goal.returns
returns c = is-accepted _ _ c.requires.0 c.requires.1
