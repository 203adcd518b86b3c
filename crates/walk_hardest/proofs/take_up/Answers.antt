use Prim.Native.Nat.{◌-◌}
use native.Mathlib.Omega.{arith}
use mathlib.Core.Path.{◌≡◌}
use Rattle.walk_hardest.proofs.Holding.{held_more, more-small}
use Rattle.walk_hardest.proofs.take_up.Goals as goal

pub window_end-end-requires : goal.window_end-end-requires
window_end-end-requires c = (c.requires.0.fits, c.requires.0.width, c.requires.1)

pub loop-next-init : goal.loop-next-init
loop-next-init c = c.requires.2

pub run_at-run-requires : goal.run_at-run-requires
run_at-run-requires c = (c.requires.0.fits, (let h = c.loop-next-test.true in let g = c.count-count.ensures in omega arith))

pub returns-then-end-run : goal.returns-then-end-run
returns-then-end-run c = (c.loop-next.invariant, λ _. (let h = c.if-end-run.true in let g = c.run_at-run.ensures.1 in let e = c.window_end-end.ensures in omega arith))

pub bounds-whole-next : goal.bounds-whole-next
bounds-whole-next c = let h = c.loop-next-test.true in let g = c.count-count.ensures in let r = c.requires.0.room in omega arith

pub overflow_add-time : goal.overflow_add-time
overflow_add-time c = let m = more-small _ _ _ c.requires.0 _ c.requires.1 _ _ c.loop-next.invariant (let h = c.loop-next-test.true in let g = c.count-count.ensures in omega arith) (let h = c.if-end-run.false in let g = c.run_at-run.ensures.1 in let e = c.window_end-end.ensures in omega arith) in omega arith

pub loop-next-preserved : goal.loop-next-preserved
loop-next-preserved c = held_more _ _ _ c.requires.0 _ c.requires.1 _ _ c.loop-next.invariant (let h = c.loop-next-test.true in let g = c.count-count.ensures in omega arith) (let h = c.if-end-run.false in let g = c.run_at-run.ensures.1 in let e = c.window_end-end.ensures in omega arith)

pub returns : goal.returns
returns c = let h = c.loop-next-test.false in let g = c.count-count.ensures in let t = c.loop-next.invariant.to in let e : c.count-count.result ≡ c.loop-next.next = omega arith in (rw e c.loop-next.invariant, λ k. absurd (omega arith))
