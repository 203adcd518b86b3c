use Rattle.zone.proofs.Opens.{utc-is}
use Rattle.zone.proofs.utc.Goals as goal

pub returns : goal.returns
returns c = utc-is _ c.utc.ensures
