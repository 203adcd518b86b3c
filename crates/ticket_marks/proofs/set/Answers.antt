-- `ticket_marks::set` meets its contract. Assumes nothing.
use Rattle.ticket_marks.specs.Laws.{room-left}
use mathlib.Core.List.{◌∷◌}
use mathlib.Core.Path.{◌∙◌, ap}
use native.Mathlib.Omega.{arith}
use Rattle.ticket_marks.proofs.set.Goals as goal

pub push-requires : goal.push-requires
push-requires c = room-left _ _ _ (c.without.ensures) c.requires.1

pub returns : goal.returns
returns c = (c.push.ensures.0 ∙ ap (c.args.x ∷◌) (c.without.ensures), omega (arith, c.push.ensures.1, room-left _ _ _ (c.without.ensures) c.requires.1))
