-- `schedule_ticket::refused` meets its contract. Assumes nothing.
use Rattle.schedule_ticket.proofs.Answers.{refused-is}
use Rattle.schedule_ticket.proofs.refused.Goals as goal

pub returns : goal.returns
returns c = refused-is _ _ c.number.ensures
