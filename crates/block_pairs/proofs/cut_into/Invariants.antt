-- `block_pairs::cut_into` meets its contract. Assumes nothing.
use Rattle.block_pairs.proofs.Cutting.{Cutting}
use Rattle.block_pairs.proofs.cut_into.Given as goal

abbrev pub invariant-loop-k : goal.invariant-loop-k
invariant-loop-k l = Cutting l.off l.j l.m l.s l.e l.initial.out l.w l.out l.from l.k l.n
