-- `schedule_ticket::start` meets its contract. Assumes nothing.
use Rattle.schedule_ticket.proofs.Answers.{no-time-within, accepts-as}
use mathlib.Core.Option.{some}
use Rattle.schedule_ticket.proofs.start.Goals as goal

-- src/lib.rt:80:5
pub accepted-requires : goal.accepted-requires
accepted-requires c = (c.started.ensures.begun, no-time-within)

-- src/lib.rt:75:1
pub returns : goal.returns
returns c = accepts-as _ _ _ (λ i. record { time = 0; ticket = some (c.started.ensures.stands i) }) (c.accepted.ensures)
