-- `zone_steady::footer_behind` meets its contract: by the kind of footer.
use native.Mathlib.Omega.{arith}
use Rattle.zone_steady.proofs.Steps.{empty-behind, fixed-behind, start_fits, end_fits, daylight-behind, standard-behind}
use Rattle.zone_steady.proofs.footer_behind.Goals as goal

pub around-a-requires : goal.around-a-requires
around-a-requires c = let h = start_fits (c.in-Rules.is) (c.requires.0) in (h.0, h.1, c.requires.1)

pub around-b-requires : goal.around-b-requires
around-b-requires c = let h = end_fits (c.in-Rules.is) (c.requires.0) in (h.0, h.1, c.requires.1)

pub returns-then-b-a : goal.returns-then-b-a
returns-then-b-a c = daylight-behind (c.in-Rules.is) (c.requires.0) _ (c.requires.2) (c.around-a.ensures) (c.around-b.ensures) (c.max.ensures) (c.max-since.ensures) (omega arith)

pub returns-in-Empty : goal.returns-in-Empty
returns-in-Empty c = empty-behind _ (c.in-Empty.is) (c.requires.2)

pub returns-in-Fixed : goal.returns-in-Fixed
returns-in-Fixed c = fixed-behind _ (c.in-Fixed.is) (c.requires.2)

pub returns-else-b-a : goal.returns-else-b-a
returns-else-b-a c = standard-behind (c.in-Rules.is) (c.requires.0) _ (c.requires.2) (c.around-a.ensures) (c.around-b.ensures) (c.max.ensures) (c.max-since.ensures) (omega arith)
