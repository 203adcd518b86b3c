-- `schedule_ticket::elapsed` meets its contract. Assumes nothing.
use Rattle.schedule_ticket.proofs.Answers.{elapsed-held, spell, sum_fits, elapsed-running}
use Rattle.std.proofs.Common.{rules}
use Rattle.schedule_ticket.proofs.elapsed.Goals as goal

-- src/lib.rt:66:9
pub returns-then-ne : goal.returns-then-ne
returns-then-ne c = elapsed-held _ c.args.k _ c.requires.1 (search rules)

-- src/lib.rt:69:9
pub between-spell-requires : goal.between-spell-requires
between-spell-requires c = (c.requires.0, spell _ _ c.requires.1)

-- src/lib.rt:71:5
pub sum-requires : goal.sum-requires
sum-requires c = sum_fits _ _ _ c.requires.1 _ c.between-spell.ensures.0 c.between-spell.ensures.2

-- src/lib.rt:60:1
pub returns : goal.returns
returns c = elapsed-running _ c.args.k _ c.requires.1 _ c.between-spell.ensures.0 _ (search rules) c.sum.ensures.0 c.sum.ensures.1
