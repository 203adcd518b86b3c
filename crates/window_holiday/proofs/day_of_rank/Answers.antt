-- `window_holiday::day_of_rank` meets its contract. Assumes nothing.
use Rattle.std.proofs.Common.{refl}
use Rattle.window_holiday.proofs.Order.{a-rank}
use Rattle.window_holiday.proofs.day_of_rank.Goals as goal

pub returns : goal.returns
returns c = a-rank c.args.k _ _ _ c.ranges.k.fits refl refl refl c.day_of.ensures
