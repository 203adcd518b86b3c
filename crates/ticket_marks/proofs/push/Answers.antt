-- `ticket_marks::push` meets its contract. Assumes nothing.
use Rattle.ticket_marks.specs.Laws.{latest-push}
use lib.ListN.{length}
use mathlib.Core.Path.{◌≡◌, refl}
use native.Mathlib.Omega.{arith}
use Rattle.ticket_marks.proofs.push.Goals as goal

pub returns : goal.returns
returns c = let l : length c.args.m.items ≡ 8 = omega (arith, c.well_formed) in (latest-push _ _ _ (omega (arith, c.requires, l)), refl)
