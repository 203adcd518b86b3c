-- `ticket::may_follow` meets its contract. Assumes nothing.
use Rattle.std.proofs.Common.{◌∙◌}
use Rattle.ticket_marks.specs.Laws.{place-set}
use Rattle.ticket.specs.Tickets.{standing}
use Rattle.ticket.specs.Sound.{sound-facts, set-by, follow-by, back-set}
use Rattle.ticket.specs.declared.Action.TheVariants as A
use Rattle.ticket.proofs.may_follow.Goals as goal

pub find-requires : goal.find-requires
find-requires c = (sound-facts _ c.requires.sound).count

pub returns-in-Back : goal.returns-in-Back
returns-in-Back c =
    follow-by (standing c.args.k) _ (A.Back _) c.in-Back.is (back-set c.args.k _ (c.is_some.ensures ∙ place-set c.find.result ∙ set-by _ _ _ c.find.ensures.0))
