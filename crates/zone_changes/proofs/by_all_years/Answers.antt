-- `zone_changes::by_all_years` meets its contract.
use Rattle.zone_changes.proofs.Offsets.{by-all-years-daylight, by-all-years-standard}
use native.Mathlib.Omega.{arith}
use Rattle.zone_changes.proofs.by_all_years.Goals as goal

pub around-a-requires : goal.around-a-requires
around-a-requires c = (c.requires.0.2, c.requires.0.0.1, c.requires.1)

pub around-b-requires : goal.around-b-requires
around-b-requires c = (c.requires.0.3, c.requires.0.1.1, c.requires.1)

pub returns-then-b-a : goal.returns-then-b-a
returns-then-b-a c = by-all-years-daylight _ _ _ _ c.requires.0 c.around-a.ensures c.around-b.ensures c.min-until.ensures (omega arith)

pub returns : goal.returns
returns c = by-all-years-standard _ _ _ _ c.requires.0 c.around-a.ensures c.around-b.ensures c.min-until.ensures (omega arith)
