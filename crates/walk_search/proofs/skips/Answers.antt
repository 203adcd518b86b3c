-- `walk_search::skips` meets its contract: by its tests, in order. Assumes nothing.
use Rattle.walk_search.proofs.Skipping.{skipped-run, skipped-from}
use Rattle.instant.specs.Instant.{nanos}
use Rattle.walk_search.proofs.skips.Goals as goal

pub returns : goal.returns
returns c = let f = skipped-from _ c.args.back (nanos c.args.t) (nanos c.args.x) _ c.at-p.ensures.0 c.borders.ensures in (c.in_ok-time.was, skipped-run c.args.kept _ _ _ _ c.weeks-m.ensures c.if-m-eq0.false c.if-n-eq0.false c.min.ensures c.min-count.ensures c.requires.1.3 c.in_ok-time.time c.fitting-n.ensures.1 f.1 c.if-count-eq0.false)
