-- `query_line::start` meets its contract.
use mathlib.Core.Path.{refl}
use Rattle.query_line.proofs.Starting.{started}
use Rattle.query_line.proofs.start.Goals as goal

pub returns : goal.returns
returns c = λ s. started _ s refl
