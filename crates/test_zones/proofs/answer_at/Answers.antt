-- `answer_at` reads the number of the definition.
use Rattle.test_zones.proofs.Steps.{shifted-is}
use Rattle.test_zones.proofs.answer_at.Goals as goal

pub returns : goal.returns
returns c = shifted-is _ _ _ c.be64_at.ensures c.wrapping_add_u64.ensures.value
