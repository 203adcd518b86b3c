-- `zone_pack::pack_ok` meets its contract.
use mathlib.Core.Path.{sym, ◌∙◌}
use native.Mathlib.Omega.{arith}
use borrow.Author.Tests.{lt-leb}
use Rattle.laws_base.specs.Test.{clash}
use Rattle.zone_pack.specs.Pack.{most_zones}
use Rattle.zone_pack.proofs.Ends.{pack-many, pack-dir, pack-rest}
use Rattle.zone_pack.proofs.pack_ok.Goals as goal
use Rattle.zone_pack.proofs.pack_ok.Goals.{then-n-le-MOST_ZONES, else-n-le-MOST_ZONES}

pub returns-then-dir_ok : goal.returns-then-dir_ok
returns-then-dir_ok c =
    elim c.if-n-le-MOST_ZONES.branch [
      | then-n-le-MOST_ZONES w ↦ pack-rest _ c.count_of-n.ensures.0 w.if-n-le-MOST_ZONES.true w.dir_ok.ensures (sym w.value-is ∙ c.if-dir_ok.true) c.names_ok.ensures
      | else-n-le-MOST_ZONES w ↦ clash _ (sym w.value-is ∙ c.if-dir_ok.true) (lt-leb c.count_of-n.result most_zones (omega arith))
    ]

pub returns-else-dir_ok : goal.returns-else-dir_ok
returns-else-dir_ok c =
    elim c.if-n-le-MOST_ZONES.branch [
      | then-n-le-MOST_ZONES w ↦ c.if-dir_ok.false ∙ pack-dir _ c.count_of-n.ensures.0 w.if-n-le-MOST_ZONES.true w.dir_ok.ensures (sym w.value-is ∙ c.if-dir_ok.false)
      | else-n-le-MOST_ZONES w ↦ c.if-dir_ok.false ∙ pack-many _ c.count_of-n.ensures.0 (omega arith)
    ]
