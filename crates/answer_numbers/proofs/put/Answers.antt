-- `answer_numbers::put` meets its contract: the part that is copied is the list that is written.
use Rattle.std.proofs.Common.{arith}
use Rattle.answer_numbers.specs.Written.{part-written}
use Rattle.answer_numbers.proofs.put.Goals as goal

pub returns : goal.returns
returns g c = part-written _ _ _ _ c.copy_from_slice.ensures.after (omega arith) (omega arith)
