-- `zone_changes::footer_run_at` meets its contract.
use Rattle.zone_changes.proofs.footer_run_at.Goals as goal

pub returns-in-Some : goal.returns-in-Some
returns-in-Some c = rw c.in-Rules.is (c.in-Some.ensures c.args.last)

pub returns-in-None : goal.returns-in-None
returns-in-None c = rw c.in-Rules.is (c.by_all_years.ensures c.args.last)
