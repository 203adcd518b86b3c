-- `build::zone_named` meets its contract.
use Rattle.build.proofs.Lookups.{known-named}
use Rattle.build.proofs.zone_named.Goals as goal

pub returns-in-Some : goal.returns-in-Some
returns-in-Some c = known-named _ _ _ (rw c.in-Some.is at c.requires.2) (c.is_named.ensures c.if-is_named.true)
