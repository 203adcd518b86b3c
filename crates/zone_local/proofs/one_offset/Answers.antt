-- `zone_local::one_offset` meets its contract.
use Rattle.zone_local.proofs.Facts.{kept_run}
use Rattle.zone_local.proofs.one_offset.Goals as goal

pub returns-then-hi-run : goal.returns-then-hi-run
returns-then-hi-run c = kept_run _ (c.args.lo) (c.args.hi) _ _ (c.requires.1) (c.requires.2) (c.if-lo-lt-FIRST_KEPT.false) (c.if-hi-gt-LAST_KEPT.false) (c.run_at-run.ensures.0) (c.run_at-run.ensures.1) (c.if-hi-run.true)
