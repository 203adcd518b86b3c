-- `walk_skip::in_range` meets its contract: by its tests. Assumes nothing.
use mathlib.Core.Path.{refl}
use native.Mathlib.Omega.{arith}
use Rattle.walk_skip.proofs.Rooms.{range-early, range-late, range_back, range-on}
use Rattle.walk_skip.proofs.in_range.Goals as goal

pub returns-then-t-lt-EARLIEST : goal.returns-then-t-lt-EARLIEST
returns-then-t-lt-EARLIEST c = (range-early _ _ (omega arith), (λ h. absurd (omega arith)), omega arith)

pub returns-then-t-gt-LATEST : goal.returns-then-t-gt-LATEST
returns-then-t-gt-LATEST c = (range-late _ _ (omega arith) (omega (arith, c.requires.ns)), (λ h. absurd (omega arith)), omega arith)

pub overflow_add-result : goal.overflow_add-result
overflow_add-result c = omega arith

pub returns-then-back : goal.returns-then-back
returns-then-back c = (range_back _ (c.args.t.sec) (c.args.t.ns) (c.if-back.true) refl (omega arith) (omega (arith, c.requires.ns)), (λ h. (omega arith, omega arith)), omega arith)

pub overflow_add-result-2 : goal.overflow_add-result-2
overflow_add-result-2 c = omega arith

pub returns : goal.returns
returns c = (range-on _ (c.args.t.sec) (c.args.t.ns) (c.if-back.false) refl (c.requires.ns) (omega arith) (omega arith), (λ h. (omega arith, omega arith)), omega arith)
