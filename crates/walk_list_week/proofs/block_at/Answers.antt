-- `walk_list_week::block_at` meets its contract. Assumes nothing.
use Rattle.block_pairs.proofs.Parts.{block_same}
use Rattle.walk_list_week.proofs.block_at.Goals as goal

pub returns : goal.returns
returns c = block_same _ _ _ _ c.after-start.ensures c.after-end.ensures
