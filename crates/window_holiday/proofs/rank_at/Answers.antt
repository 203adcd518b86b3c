-- `window_holiday::rank_at` meets its contract. Assumes nothing.
use Rattle.std.proofs.Common.{refl, ◌∙◌}
use Rattle.window_holiday.proofs.Order.{rank-read}
use Rattle.window_holiday.proofs.rank_at.Goals as goal

pub returns : goal.returns
returns c = rank-read _ _ _ _ (λ k. (c.shared_slice_known-1.given k).fits) (c.from-n.ensures ∙ c.four_at.ensures) refl
