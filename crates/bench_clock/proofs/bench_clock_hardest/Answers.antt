-- `bench_clock_hardest` writes at the front.
use mir.Facts.{to_z-of_z}
use Rattle.bench_clock.proofs.Steps.{front-stays, front-put}
use Rattle.bench_clock.proofs.bench_clock_hardest.Goals as goal

pub returns-then-out-lt-GROUP_SIZE : goal.returns-then-out-lt-GROUP_SIZE
returns-then-out-lt-GROUP_SIZE c = front-stays _ _ c.if-out-lt-GROUP_SIZE.true

pub returns : goal.returns
returns c = front-put _ c.if-out-lt-GROUP_SIZE.false (rw (to_z-of_z c.ranges.a, to_z-of_z c.ranges.b, to_z-of_z c.ranges.width) at c.hardest.ensures) c.put.ensures
