use Rattle.std.proofs.Common.{◌-◌, ◌+◌, ◌*◌, ◌≡◌, arith}
use Rattle.block_pairs.proofs.Adding.{end-holds, end-turn}
use Rattle.block_pairs.proofs.ended.Goals as goal

pub loop-i-init : goal.loop-i-init
loop-i-init c = (omega arith, end-holds _ _ _)

pub returns-then-l-i : goal.returns-then-l-i
returns-then-l-i c =
    let e : c.loop-i.i - 1 + 1 ≡ c.loop-i.i = omega arith in
    let f : 2 * (c.loop-i.i - 1) + 1 ≡ 2 * c.loop-i.i - 1 = omega arith in
    rw e (record { upto = omega arith; reach = c.loop-i.invariant.1; last = λ h. rw f at c.if-l-i.true })

pub loop-i-preserved : goal.loop-i-preserved
loop-i-preserved c =
    let f : 2 * (c.loop-i.i - 1) + 1 ≡ 2 * c.loop-i.i - 1 = omega arith in
    (omega arith, end-turn _ _ _ _ c.loop-i-test.true c.loop-i.invariant.0 (rw f at c.if-l-i.false) c.loop-i.invariant.1)

pub returns : goal.returns
returns c =
    let e : c.loop-i.i ≡ 0 = omega arith in
    record { upto = omega arith; reach = rw e at c.loop-i.invariant.1; last = λ h. absurd (omega arith) }
