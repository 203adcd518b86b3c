-- `zone_tzif::table_offset` meets its contract.
use native.Mathlib.Omega.{arith}
use Rattle.zone_tzif.proofs.Laws.{offset-first, offset-next}
use Rattle.zone_tzif.proofs.table_offset.Goals as goal

pub returns-then-k-eq0 : goal.returns-then-k-eq0
returns-then-k-eq0 c = offset-first _ _ c.requires.0 _ (omega arith)

pub returns : goal.returns
returns c = offset-next _ _ c.requires.0 (omega arith) (omega arith) c.small_at-kind.ensures.0 c.be32_at.ensures c.offset_is.ensures
