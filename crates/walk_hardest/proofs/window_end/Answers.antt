-- `walk_hardest::window_end` meets its contract.
use native.Mathlib.Omega.{arith}
use Rattle.walk_hardest.proofs.window_end.Goals as goal

pub overflow_add-result : goal.overflow_add-result
overflow_add-result c = let e = c.run_at-run.ensures.0 in let r = c.requires.0.each _ c.requires.2 in let x = r.inside in let y = r.lasts in let w = c.requires.1 in omega arith
