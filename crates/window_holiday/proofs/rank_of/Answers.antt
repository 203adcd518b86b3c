-- `window_holiday::rank_of` meets its contract. Assumes nothing.
use Rattle.std.proofs.Common.{◌+◌, ap, arith, to_z-of_z}
use Rattle.civil.specs.Dates.{year_bias}
use Rattle.civil.specs.declared.Date.{Date}
use Rattle.window_holiday.specs.Ranks.{rank, rank_of}
use Rattle.window_holiday.proofs.rank_of.Goals as goal

pub returns : goal.returns
unfolding rank_of
returns c = (rw (to_z-of_z c.ranges.day) at (ap (λ (d : Date). rank (d.year + year_bias) d.month d.day) c.date_of-d.ensures), omega arith)
