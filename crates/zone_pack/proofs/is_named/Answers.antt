-- `zone_pack::is_named` meets its contract.
use Rattle.zone_pack.proofs.Ends.{name-is}
use Rattle.zone_pack.proofs.is_named.Goals as goal

pub returns : goal.returns
returns c = search name-is
