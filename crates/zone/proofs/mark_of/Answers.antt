-- `zone::mark_of` meets its contract.
use Rattle.zone.proofs.Steps.{second-upto, not-read, read_again, read-only-once, read-in-run}
use native.Mathlib.Omega.{arith}
use Rattle.zone.proofs.mark_of.Goals as goal

pub run_after-r-requires : goal.run_after-r-requires
run_after-r-requires c = ((c.requires.0, omega (arith, second-upto _ (c.requires.0.fits) c.requires.1 c.requires.3, c.requires.2)), c.count_at-k.ensures.0)

pub overflow_add-s : goal.overflow_add-s
overflow_add-s c = omega (arith, second-upto _ (c.requires.0.fits) c.requires.1 c.requires.3, c.requires.2)

pub returns-then-s-r : goal.returns-then-s-r
returns-then-s-r c = not-read _ c.requires.0.fits c.requires.1 c.requires.3 c.run_after-r.ensures.0.0 c.run_after-r.ensures.0.1 c.if-s-r.true

pub returns-then-x-r : goal.returns-then-x-r
returns-then-x-r c = read-in-run _ c.requires.0.fits c.requires.1 c.requires.3 c.run_after-r.ensures.0.0 c.run_after-r.ensures.0.1 (omega arith) (omega (arith, c.if-x-r.true))

pub returns-then-reads_from : goal.returns-then-reads_from
returns-then-reads_from c = read_again _ c.requires.0.fits c.requires.1 c.requires.3 c.run_after-r.ensures.0.0 c.run_after-r.ensures.0.1 (omega arith) c.reads_from.ensures c.if-reads_from.true

pub returns : goal.returns
returns c = read-only-once _ c.requires.0.fits c.requires.1 c.requires.3 c.run_after-r.ensures.0.0 c.run_after-r.ensures.0.1 (omega arith) c.reads_from.ensures c.if-reads_from.false
