-- `zone_local::till_second` meets its contract. Assumes nothing.
use Rattle.zone_local.proofs.Facts.{till-same, till-next}
use mathlib.Core.Path.{sym, ◌∙◌}
use Rattle.zone_local.proofs.till_second.Goals as goal

pub returns-then-is_before : goal.returns-then-is_before
returns-then-is_before c = till-same _ _ _ c.requires.1.nanos (sym c.is_before.ensures ∙ c.if-is_before.true)

pub returns : goal.returns
returns c = till-next _ _ _ c.requires.1.nanos (sym c.is_before.ensures ∙ c.if-is_before.false)
