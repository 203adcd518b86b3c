-- `ticket::marked` meets its contract. Assumes nothing.
use Rattle.std.proofs.Common.{◌≡◌, rules}
use Rattle.ticket.specs.Tickets.{is_running}
use Rattle.ticket.specs.Sound.{sound-facts, mark-room, marked-becomes}
use Rattle.ticket.proofs.marked.Goals as goal

pub set-marks-requires : goal.set-marks-requires
set-marks-requires c = ((sound-facts _ c.requires.0.begun.sound).count, mark-room _ _ c.requires.0 _ c.requires.2)

pub returns : goal.returns
returns c =
    let q : c.eq.result ≡ is_running c.args.k.state = search rules in
    marked-becomes _ _ c.requires.0 _ _ c.requires.1 c.requires.2 q c.set-marks.ensures.0 c.set-marks.ensures.1
