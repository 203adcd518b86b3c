-- `zone_steady::table_since` meets its contract: by its test.
use Rattle.zone_steady.proofs.Steps.{since-first, since-next}
use Rattle.zone_steady.proofs.table_since.Goals as goal

pub returns-then-k-eq0 : goal.returns-then-k-eq0
returns-then-k-eq0 c = since-first _ _ (c.if-k-eq0.true)

pub returns : goal.returns
returns c = since-next _ _ _ (c.if-k-eq0.false) (c.time_at.ensures)
