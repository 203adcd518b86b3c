-- `zone_tzif_block::types_fit` meets its contract.
use Rattle.std.proofs.Common.{rules, ◌∙◌}
use Rattle.std.proofs.lemmas.Iterator.{YieldsList-from_range}
use Rattle.std.proofs.lemmas.Iterator.Search.{all_from_yields_List}
use Rattle.zone_tzif_block.specs.Parts.{type_fits}
use Rattle.zone_tzif_block.proofs.Each.{all-range}
use Rattle.zone_tzif_block.proofs.types_fit.Goals as goal

pub returns : goal.returns
returns c =
    all_from_yields_List (type_fits c.args.f.now c.args.at c.args.chars) _ _ c.all.result c.all.ensures.ran (YieldsList-from_range 0 c.args.k (c.args.k) (search rules) (search rules)) (λ x b q k. search rules)
    ∙ all-range _ 0 (c.args.k)
