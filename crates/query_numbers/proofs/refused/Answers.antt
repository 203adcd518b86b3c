-- `refused` meets its contract.
use Rattle.model.specs.Answer.{refuses}
use Rattle.refusal.specs.Refused.{number_of}
use mir.Facts.{to_z-of_z}
use Rattle.query_numbers.proofs.Answering as A
use Rattle.query_numbers.proofs.refused.Goals as goal

pub returns-then-kind-lt-BETWEEN : goal.returns-then-kind-lt-BETWEEN
returns-then-kind-lt-BETWEEN c = A.below_none (refuses (number_of c.args.r.refusal) c.args.r.place) _ _ _ _ _ (rw (to_z-of_z c.ranges.kind) at c.if-kind-lt-BETWEEN.true)

pub returns-then-kind-gt-PREVIOUS : goal.returns-then-kind-gt-PREVIOUS
returns-then-kind-gt-PREVIOUS c = A.above-none (refuses (number_of c.args.r.refusal) c.args.r.place) _ _ _ _ _ (rw (to_z-of_z c.ranges.kind) at c.if-kind-gt-PREVIOUS.true)

pub returns : goal.returns
returns c = A.query-refused _ _ _ _ _ _ c.requires (rw (to_z-of_z c.ranges.kind) at c.if-kind-lt-BETWEEN.false) (rw (to_z-of_z c.ranges.kind) at c.if-kind-gt-PREVIOUS.false)
