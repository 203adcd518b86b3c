-- `civil::day_of` meets its contract.
use mathlib.Core.Path.{sym, ◌∙◌}
use mir.Syntax.{w32}
use mir.Facts.{to_z-of_z}
use Rattle.civil.specs.DateLaws.{has-date, day-no, day-yes}
use Rattle.civil.proofs.day_of.Goals as goal

pub day_number-requires : goal.day_number-requires
day_number-requires c = has-date _ _ _ (sym c.is_date.ensures ∙ c.if-is_date.true)

pub returns-then-is_date : goal.returns-then-is_date
returns-then-is_date c = day-yes _ _ (sym c.is_date.ensures ∙ c.if-is_date.true) (to_z-of_z {w = w32} (record { sfits = c.day_number.type_inv }) ∙ c.day_number.ensures)

pub returns : goal.returns
returns c = day-no _ (sym c.is_date.ensures ∙ c.if-is_date.false)
