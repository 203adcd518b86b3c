-- `query_line::finish` meets its contract.
use Rattle.query_line.proofs.Feeding.{name-only}
use Rattle.query_line.proofs.finish.Goals as goal

pub returns-in-Name : goal.returns-in-Name
returns-in-Name c = rw c.in-Name.is (name-only _)
