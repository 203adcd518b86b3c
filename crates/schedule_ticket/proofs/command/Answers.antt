-- `schedule_ticket::command` meets its contract. Assumes nothing.
use Rattle.schedule_ticket.proofs.Answers.{told-as}
use Rattle.build.specs.First.{not-built, is-built}
use Rattle.model_ticket.specs.Ticket.{command_call}
use mir.Facts.{to_z-of_z}
use mathlib.Core.Path.{refl, sym}
use Rattle.schedule_ticket.proofs.command.Goals as goal

pub returns-in-Err : goal.returns-in-Err
returns-in-Err c = told-as _ _ _ _ (sym (not-built _ _ (λ s. command_call s _ _ _ _) c.in-Err.ensures)) (c.refused.ensures)

pub command_in-requires : goal.command_in-requires
command_in-requires c = c.in-Ok.ensures.fits

pub returns-in-Ok : goal.returns-in-Ok
returns-in-Ok c = told-as _ _ _ _ (sym (is-built _ _ (λ s. command_call s _ _ _ _) c.in-Ok.ensures refl)) (rw (to_z-of_z (c.ranges.sec), to_z-of_z (c.ranges.ns)) at (c.command_in.ensures))
