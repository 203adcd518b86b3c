-- `zone_changes::around` meets its contract.
use Rattle.zone_footer.specs.Parsed.{change_rule_is}
use Rattle.zone_changes.proofs.Years.{Seeking}
use Rattle.zone_changes.proofs.around.Given as goal

abbrev pub invariant-loop-year : goal.invariant-loop-year
invariant-loop-year l = Seeking l.offset (change_rule_is l.rule) l.u l.first l.year l.next
