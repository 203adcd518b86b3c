-- `query_answer::put_period` meets its contract.
use Rattle.query_answer.proofs.Counting.{period-refused}
use Rattle.query_answer.proofs.put_period.Goals as goal

pub returns-in-Err : goal.returns-in-Err
returns-in-Err c = (period-refused _ _ c.in-Err.is c.put_refused.ensures.0, c.put_refused.ensures.1)
