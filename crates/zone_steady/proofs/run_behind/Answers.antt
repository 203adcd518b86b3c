-- `zone_steady::run_behind` meets its contract: before the last transition the table counts, then the footer.
use native.Mathlib.Omega.{arith}
use Rattle.zone_steady.proofs.Steps.{since-le, early-back, late-back}
use Rattle.zone.proofs.Steps.{early-offset, late-offset}
use Rattle.zone_steady.proofs.run_behind.Goals as goal

pub count_at-k-requires : goal.count_at-k-requires
count_at-k-requires c = c.requires.0.table

pub table_offset-offset-requires : goal.table_offset-offset-requires
table_offset-offset-requires c = (c.requires.0.table, c.count_at-k.ensures.1)

pub table_since-since-requires : goal.table_since-since-requires
table_since-since-requires c = (c.requires.0.table, c.count_at-k.ensures.1)

pub returns-then-k-table : goal.returns-then-k-table
returns-then-k-table c = (early-offset (c.requires.0.table) _ _ (c.count_at-k.ensures.0) (c.if-k-table.true) (c.table_offset-offset.ensures.0), early-back _ _ (c.requires.0.table) _ (c.count_at-k.ensures.0) _ (c.table_since-since.ensures) (c.if-k-table.true))

pub footer_behind-requires : goal.footer_behind-requires
footer_behind-requires c = (c.requires.0.fits.footer-fits, c.requires.1, since-le _ _ (c.requires.0.table) _ (c.count_at-k.ensures.0) (c.table_since-since.ensures))

pub returns : goal.returns
returns c = (late-offset (c.requires.0.table) _ _ (c.count_at-k.ensures.0) (omega arith) (c.count_at-k.ensures.1) (c.table_offset-offset.ensures.0) (c.footer_behind.ensures.0), late-back _ _ (c.requires.0.table) _ (c.count_at-k.ensures.0) _ (c.table_since-since.ensures) (omega arith) (c.count_at-k.ensures.1) (c.table_offset-offset.ensures.0) (c.footer_behind.ensures.2) (c.footer_behind.ensures.1))
