-- `build::default_zone` meets its contract.
use Rattle.build.proofs.Lookups.{default-named, default-utc}
use Rattle.build.proofs.default_zone.Goals as goal

pub returns-then-i-count : goal.returns-then-i-count
returns-then-i-count c = record { means = default-named c.args.book.now c.args.pack.now c.last_default-i.result c.last_default-i.ensures.0 c.count.ensures.0 c.if-i-count.true c.entry_at.ensures c.look_up.ensures.means; fits = c.look_up.ensures.fits }

pub returns : goal.returns
returns c = default-utc c.args.book.now c.args.pack.now c.last_default-i.result c.last_default-i.ensures.0 c.count.ensures.0 c.if-i-count.false (c.utc.ensures _)
