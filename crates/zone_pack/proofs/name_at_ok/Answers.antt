-- `zone_pack::name_at_ok` meets its contract.
use Rattle.zone_pack.proofs.name_at_ok.Goals as goal

pub returns : goal.returns
returns c = search (c.name_ok.ensures, c.start_at.ensures.0, c.len_at.ensures.0)
