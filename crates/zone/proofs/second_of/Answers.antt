-- `zone::second_of` meets its contract.
use native.Mathlib.Omega.{arith}
use Rattle.laws_zone.specs.Zones.{offset-fits, second-resolves}
use Rattle.laws_zone.specs.Resolve.{one_answer}
use Rattle.zone.proofs.Steps.{at-start, at_offset, at-found}
use Rattle.zone.proofs.second_of.Goals as goal

pub overflow_sub-x-2 : goal.overflow_sub-x-2
overflow_sub-x-2 c = omega (arith, at_offset (at-start _ _ (λ u. (offset-fits _ c.requires.0.fits u).1) (omega arith) c.run_at-r.ensures.0 c.run_at-r.ensures.1))

pub overflow_sub-result : goal.overflow_sub-result
overflow_sub-result c = omega (arith, at_offset (at-start _ _ (λ u. (offset-fits _ c.requires.0.fits u).1) (omega arith) c.run_at-r.ensures.0 c.run_at-r.ensures.1))

pub returns-then-x-offset : goal.returns-then-x-offset
returns-then-x-offset c = one_answer _ (at-found (at-start _ _ (λ u. (offset-fits _ c.requires.0.fits u).1) (omega arith) c.run_at-r.ensures.0 c.run_at-r.ensures.1) (omega arith)) (second-resolves _ c.requires.0.fits _ (omega arith))

pub returns : goal.returns
returns c = one_answer _ c.second_by_runs.ensures (second-resolves _ c.requires.0.fits _ (omega arith))
