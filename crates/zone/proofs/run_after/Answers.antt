-- `zone::run_after` meets its contract.
use native.Mathlib.Omega.{arith}
use Rattle.model.specs.Footer.{empty}
use Rattle.zone_tzif.proofs.Laws.{count_most}
use Rattle.zone.proofs.Steps.{early-offset, early-run, early-count, late-offset, late-run, late-count}
use Rattle.zone.proofs.run_after.Goals as goal

pub table_offset-offset-requires : goal.table_offset-offset-requires
table_offset-offset-requires c = (c.requires.0.0.table, omega (arith, c.requires.1, count_most _ _ c.requires.0.0.table c.args.u))

pub returns-then-k-table : goal.returns-then-k-table
returns-then-k-table c = let t = c.requires.0.0.table in ((early-offset t _ _ c.requires.1 (omega arith) c.table_offset-offset.ensures.0, early-run t _ _ c.requires.1 (omega arith) c.time_at.ensures), early-count t empty _ c.requires.1 (omega arith) c.time_at.ensures)

pub returns : goal.returns
returns c = let t = c.requires.0.0.table in let m = count_most _ _ t c.args.u in ((late-offset t _ _ c.requires.1 (omega arith) (omega (arith, c.requires.1, m)) c.table_offset-offset.ensures.0 c.footer_run_at.ensures.0, late-run t _ _ c.requires.1 (omega arith) (omega (arith, c.requires.1, m)) c.table_offset-offset.ensures.0 c.footer_run_at.ensures.1), late-count t empty _ c.requires.1 (omega arith) (omega (arith, c.requires.1, m)) c.table_offset-offset.ensures.0 c.footer_run_at.ensures.1.on)
