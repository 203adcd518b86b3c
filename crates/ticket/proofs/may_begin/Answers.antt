-- `ticket::may_begin` meets its contract. Assumes nothing.
use Rattle.std.proofs.Common.{sym}
use Rattle.model_ticket.specs.Ticket.{may_follow, new_ticket}
use Rattle.laws_base.specs.Test.{by-test}
use Rattle.ticket.specs.Tickets.{action_is}
use Rattle.ticket.specs.Sound.{begin-start}
use Rattle.ticket.proofs.may_begin.Goals as goal

pub returns-in_default : goal.returns-in_default
returns-in_default c = by-test (may_follow (action_is c.args.a) new_ticket) (λ e. absurd (c.in_default.not-Start (begin-start c.args.a e))) (λ e. sym e)
