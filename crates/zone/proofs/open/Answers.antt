-- `zone::open` meets its contract.
use Rattle.std.proofs.Common.{sym, ◌∙◌}
use Rattle.zone.proofs.Opens.{open_none, open_is, open_bad}
use Rattle.zone.proofs.open.Goals as goal

pub returns-in_err-table : goal.returns-in_err-table
returns-in_err-table c = open_none _ (sym c.read.ensures ∙ c.in_err-table.was) c.from_residual.ensures

pub returns-in_err-footer : goal.returns-in_err-footer
returns-in_err-footer c = open_bad _ _ (sym c.read.ensures ∙ c.in_ok-table.was) c.small_at.ensures.0 c.part-line.ensures c.parse.ensures c.in_err-footer.was c.from_residual-in_err-footer.ensures

pub returns : goal.returns
returns c = open_is _ _ (sym c.read.ensures ∙ c.in_ok-table.was) c.small_at.ensures.0 c.part-line.ensures c.parse.ensures _ c.in_ok-footer.was
