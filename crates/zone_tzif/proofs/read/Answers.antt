-- `zone_tzif::read` meets its contract.
use Rattle.std.proofs.Common.{rules, ◌∙◌, sym}
use Rattle.zone_tzif.proofs.Bridge.{block_in}
use Rattle.zone_tzif.proofs.read.Goals as goal

pub layout_at-requires : goal.layout_at-requires
layout_at-requires c = (search rules, c.head_at-h.ensures.1, block_in _ _ _ (sym c.block_ok.ensures ∙ c.if-block_ok.true))
