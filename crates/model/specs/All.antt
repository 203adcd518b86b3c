-- One name that unfolds every definition of the model, for computing.
use Rattle.model.specs.Basic.{basics}
use Rattle.model.specs.Bytes.{bytes}
use Rattle.model.specs.Calendar.{calendar}
use Rattle.model.specs.Instant.{instants}
use Rattle.model.specs.Directory.{directory}
use Rattle.model.specs.Pack.{packs}
use Rattle.model.specs.Footer.{footers}
use Rattle.model.specs.Tzif.{tzif}
use Rattle.model.specs.Zone.{zones}
use Rattle.model.specs.NextChange.{next_changes}
use Rattle.model.specs.Book.{books}
use Rattle.model.specs.Blocks.{blocks}
use Rattle.model.specs.Working.{workings}
use Rattle.model.specs.Build.{builds}
use Rattle.model.specs.Walk.{walks}
use Rattle.model.specs.Skip.{skips}
use Rattle.model.specs.Calls.{calls}
use Rattle.model.specs.Hardest.{hardests}
use Rattle.model.specs.ZoneCalls.{zone_calls}
use Rattle.model.specs.Marks.{marks}
use Rattle.model.specs.Lines.{lines}

unfoldable pub everything : Unit {0}
unfolding basics bytes calendar instants directory packs footers tzif zones next_changes books blocks workings builds walks skips calls hardests zone_calls marks lines
everything = tt
