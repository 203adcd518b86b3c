-- `build::zone_used` meets its contract.
use Rattle.build.proofs.Lookups.{used-default, used-own, used-named}
use Rattle.build.proofs.zone_used.Goals as goal
use Rattle.build.proofs.zone_used.Goals.{then-e-eq-DEFAULT_ZONE-via-then-e-eq-DEFAULT_ZONE, then-e-eq-DEFAULT_ZONE-via-else-e-eq-DEFAULT_ZONE+then-e-eq0}

pub returns-then-e-eq-DEFAULT_ZONE : goal.returns-then-e-eq-DEFAULT_ZONE
returns-then-e-eq-DEFAULT_ZONE c = record {
  means = elim c.then-e-eq-DEFAULT_ZONE.branch [
    | then-e-eq-DEFAULT_ZONE-via-then-e-eq-DEFAULT_ZONE w ↦ used-default _ _ _ _ w.if-e-eq-DEFAULT_ZONE.true
    | then-e-eq-DEFAULT_ZONE-via-else-e-eq-DEFAULT_ZONE+then-e-eq0 w ↦ used-own _ _ _ _ c.requires.1.1 w.if-e-eq-DEFAULT_ZONE.false w.if-e-eq0.true
  ];
  fits = c.requires.0;
}

pub returns : goal.returns
returns c = record { means = used-named _ _ _ _ c.requires.1.1 c.if-e-eq-DEFAULT_ZONE.false c.if-e-eq0.false c.zone_named.ensures.means; fits = c.zone_named.ensures.fits }
