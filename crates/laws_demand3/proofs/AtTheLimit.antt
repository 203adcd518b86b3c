-- Demand 3 of the book of specs/Sharp.antt whose zone has two offsets 86,400 s apart.
use Rattle.std.specs.Prelude.{leb}
use Rattle.model.specs.All.{everything}
use Rattle.laws_demand3.specs.Zones.{WithinDay, used_in, zones_of}
use Rattle.laws_base.specs.Every.{Every}
use Rattle.laws_demand3.specs.Demand3.{Demand3, as_defined}
use Rattle.laws_demand3.specs.Sharp.{book, pack, change, near-builds, step}
use Rattle.laws_demand3.proofs.Holds.{demand-3}
use Rattle.model.specs.Instant.{day_seconds}

near-premise : Every WithinDay (zones_of book (pack day_seconds))
unfolding everything used_in zones_of
near-premise = ((λ u v _ _. step (leb change u) (leb change v)), tt)

pub holds-at-24-hours : Demand3 (as_defined book (pack day_seconds))
holds-at-24-hours = demand-3 book (pack day_seconds) near-builds.0 near-builds.1 near-premise
