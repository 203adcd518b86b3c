-- `run_log::is_log` meets its contract.
use Rattle.std.proofs.Common.{arith}
use Rattle.std.proofs.lemmas.Int.{ints}
use Rattle.run_log.proofs.Runs.{log-long, log-odd, log-not, log-done, log-next, next-inside}
use Rattle.run_log.proofs.is_log.Goals as goal
use Rattle.run_log.proofs.is_log.Goals.{then-log-gt-MOST_NUMBERS-via-then-log-gt-MOST_NUMBERS, then-log-gt-MOST_NUMBERS-via-else-log-gt-MOST_NUMBERS+then-log-ne0}

pub returns-then-log-gt-MOST_NUMBERS : goal.returns-then-log-gt-MOST_NUMBERS
returns-then-log-gt-MOST_NUMBERS c =
    elim c.then-log-gt-MOST_NUMBERS.branch [
      | then-log-gt-MOST_NUMBERS-via-then-log-gt-MOST_NUMBERS w ↦ log-long _ _ w.if-log-gt-MOST_NUMBERS.true
      | then-log-gt-MOST_NUMBERS-via-else-log-gt-MOST_NUMBERS+then-log-ne0 w ↦ log-odd _ _ w.if-log-ne0.true
    ]

pub returns-then-not-is_run : goal.returns-then-not-is_run
returns-then-not-is_run c = log-not _ _ (omega arith) _ _ c.loop-j.invariant.same (omega arith) c.is_run.ensures (omega (arith, ints)) (omega (arith, ints)) c.if-not-is_run.true

pub loop-j-preserved : goal.loop-j-preserved
loop-j-preserved c =
    let i = next-inside _ _ (omega arith) _ _ c.loop-j.invariant.same (omega arith) c.is_run.ensures (omega (arith, ints)) (omega (arith, ints)) c.if-not-is_run.false in
    record {
      same =
          rw (c.unsigned_abs.ensures.value, c.unsigned_abs-in-loop-j.ensures.value)
          (log-next _ _ (omega arith) _ _ c.loop-j.invariant.same (omega arith) c.is_run.ensures (omega (arith, ints)) (omega (arith, ints)) c.if-not-is_run.false);
      inside = omega arith;
    }

pub returns : goal.returns
returns c = log-done _ _ (omega arith) _ _ c.loop-j.invariant.same (omega arith)
