-- `schedule_ticket::follow` meets its contract. Assumes nothing.
use Rattle.schedule_ticket.proofs.Answers.{done-range}
use Rattle.schedule_ticket.proofs.Answers.{within-range, not-again, marks-name, goes_back, follows-hold, follows-resume, follows-mark, follows-back}
use mathlib.Core.Path.{refl}
use Rattle.schedule_ticket.proofs.follow.Goals as goal

-- src/lib.rt:89:26
pub start-requires : goal.start-requires
start-requires c = c.requires.1.in-range

-- src/lib.rt:91:17
pub elapsed-e-requires : goal.elapsed-e-requires
elapsed-e-requires c = (c.requires.0, c.requires.1)

-- src/lib.rt:92:22
pub held-requires : goal.held-requires
held-requires c = (c.requires.1, c.elapsed-e.ensures.within)

-- src/lib.rt:92:13
pub accepted-requires : goal.accepted-requires
accepted-requires c = (c.held.ensures.begun, within-range _ _ c.requires.1.in-range c.elapsed-e.ensures.within)

-- src/lib.rt:96:22
pub resumed-requires : goal.resumed-requires
resumed-requires c = c.requires.1

-- src/lib.rt:96:13
pub accepted-requires-in-Resume : goal.accepted-requires-in-Resume
accepted-requires-in-Resume c = (c.resumed.ensures.begun, done-range c.args.k c.requires.1.begun)

-- src/lib.rt:99:17
pub elapsed-e-requires-in-Mark : goal.elapsed-e-requires-in-Mark
elapsed-e-requires-in-Mark c = (c.requires.0, c.requires.1)

-- src/lib.rt:100:22
pub marked-requires : goal.marked-requires
marked-requires c = (c.requires.1, c.elapsed-e-in-Mark.ensures.within, marks-name c.args.k c.args.a _ c.in-Mark.is c.requires.2)

-- src/lib.rt:100:13
pub accepted-requires-in-Mark : goal.accepted-requires-in-Mark
accepted-requires-in-Mark c = (c.marked.ensures.begun, within-range _ _ c.requires.1.in-range c.elapsed-e-in-Mark.ensures.within)

-- src/lib.rt:103:17
pub set_back-j-requires : goal.set_back-j-requires
set_back-j-requires c = (c.requires.1, goes_back c.args.k c.args.a _ c.in-Back.is c.requires.2)

-- src/lib.rt:105:13
pub accepted-requires-in-Back : goal.accepted-requires-in-Back
accepted-requires-in-Back c = (c.set_back-j.ensures.0.begun, done-range _ c.set_back-j.ensures.0.begun)

-- src/lib.rt:84:1
pub returns-in-Start : goal.returns-in-Start
returns-in-Start c = not-again c.args.k c.args.a c.in-Start.is c.requires.2

-- src/lib.rt:84:1
pub returns-in-Hold : goal.returns-in-Hold
returns-in-Hold c = follows-hold _ c.args.k c.args.a c.args.t _ _ _ (c.accepted.ensures) c.in-Hold.is (c.elapsed-e.ensures) (c.held.ensures)

-- src/lib.rt:84:1
pub returns-in-Resume : goal.returns-in-Resume
returns-in-Resume c = follows-resume _ c.args.k c.args.a c.args.t _ _ _ (c.accepted-in-Resume.ensures) c.in-Resume.is refl (c.resumed.ensures)

-- src/lib.rt:84:1
pub returns-in-Mark : goal.returns-in-Mark
returns-in-Mark c = follows-mark _ c.args.k c.args.a c.args.t _ _ _ (c.accepted-in-Mark.ensures) _ c.in-Mark.is (c.elapsed-e-in-Mark.ensures) (c.marked.ensures)

-- src/lib.rt:84:1
pub returns-in-Back : goal.returns-in-Back
returns-in-Back c = follows-back _ c.args.k c.args.a c.args.t _ _ _ (c.accepted-in-Back.ensures) _ c.in-Back.is refl c.set_back-j.ensures.0 c.set_back-j.ensures.1
