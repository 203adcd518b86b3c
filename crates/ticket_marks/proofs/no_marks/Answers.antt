-- `ticket_marks::no_marks` meets its contract. Assumes nothing.
use Rattle.ticket_marks.specs.Marks.{latest}
use mathlib.Core.Path.{refl}
use Rattle.ticket_marks.proofs.no_marks.Goals as goal

pub returns : goal.returns
unfolding latest
returns c = (refl, refl)
