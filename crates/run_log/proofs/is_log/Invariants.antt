-- `run_log::is_log` meets its contract.
use Rattle.std.proofs.Common.{◌≡◌, ◌*◌, ◌≤◌, drop}
use Rattle.model.specs.Hardest.{are_runs}
use Rattle.model.specs.Instant.{last_second}
use Rattle.instant.specs.Instant.{nanos}
use Rattle.run_log.proofs.is_log.Given as goal

abbrev pub invariant-loop-j : goal.invariant-loop-j
invariant-loop-j l = record {
  same : are_runs (nanos l.t) l.end (drop (2 * l.j) l.log) ≡ are_runs (nanos l.t) 0 l.log;
  inside : l.end ≤ last_second;
}
