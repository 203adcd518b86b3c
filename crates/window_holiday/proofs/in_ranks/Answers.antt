-- `window_holiday::in_ranks` meets its contract. Assumes nothing.
use Rattle.window_holiday.proofs.Order.{in_count}
use Rattle.window_holiday.proofs.in_ranks.Goals as goal

pub returns : goal.returns
returns c = in_count _ _ _ _ c.requires c.ranges.k.fits c.wrapping_sub_u64.type_inv c.wrapping_sub_u64.ensures.value
