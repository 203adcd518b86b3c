-- `answer_one` answers in place.
use Rattle.bench_clock.proofs.Steps.{turn_is, period-turn, as-time, as-move}
use Rattle.bench_clock.proofs.answer_one.Goals as goal

pub returns-then-kind-eq0 : goal.returns-then-kind-eq0
returns-then-kind-eq0 c = turn_is _ _ _ _ (record { sfits = c.time-arg-1.given }) (record { sfits = c.time-arg-then-kind-eq0-1.given }) (record { sfits = c.time-arg-then-kind-eq0-2-1.given }) (record { sfits = c.time-arg-then-kind-eq0-3-1.given }) (as-time _ _ _ _ _ _ c.if-kind-eq0.true c.time-r.ensures) c.put.ensures

pub returns-then-kind-lt3 : goal.returns-then-kind-lt3
returns-then-kind-lt3 c = turn_is _ _ _ _ (record { sfits = c.moved-arg-1.given }) (record { sfits = c.moved-arg-then-kind-lt3-1.given }) (record { sfits = c.moved-arg-then-kind-lt3-2-1.given }) (record { sfits = c.moved-arg-then-kind-lt3-3-1.given }) (as-move _ _ _ _ _ _ c.if-kind-eq0.false c.if-kind-lt3.true c.moved-r.ensures) c.put-then-kind-lt3.ensures

pub returns : goal.returns
returns c = period-turn _ _ _ _ (record { sfits = c.period-arg-1.given }) (record { sfits = c.period-arg-2-1.given }) c.if-kind-lt3.false c.period-r.ensures c.put-2.ensures
