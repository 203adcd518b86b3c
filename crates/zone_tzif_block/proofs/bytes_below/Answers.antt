-- `zone_tzif_block::bytes_below` meets its contract.
use Rattle.std.proofs.Common.{rules, ◌∙◌}
use Rattle.std.proofs.lemmas.Iterator.{YieldsList-from_range}
use Rattle.std.proofs.lemmas.Iterator.Search.{all_from_yields_List}
use Rattle.zone_tzif_block.specs.Parts.{byte_below}
use Rattle.zone_tzif_block.proofs.Each.{all-range}
use Rattle.zone_tzif_block.proofs.bytes_below.Goals as goal

pub returns : goal.returns
returns c =
    all_from_yields_List (byte_below c.args.f.now c.args.at c.args.n) _ _ c.all.result c.all.ensures.ran (YieldsList-from_range 0 c.args.k (c.args.k) (search rules) (search rules)) (λ x b q k. search rules)
    ∙ all-range _ 0 (c.args.k)
