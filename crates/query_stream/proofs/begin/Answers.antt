-- `query_stream::begin` meets its contract.
use mathlib.Core.Path.{refl}
use Rattle.query_stream.proofs.Lines.{from_start}
use Rattle.query_stream.proofs.begin.Goals as goal

pub returns : goal.returns
returns c = ((λ s a g. from_start a _ (λ t k. c.start.ensures t) s g), (refl, refl))
