-- `block_pairs::subtract` meets its contract. Assumes nothing.
use Rattle.block_pairs.proofs.Cutting.{Subtracting}
use Rattle.block_pairs.proofs.subtract.Given as goal

abbrev pub invariant-loop-i : goal.invariant-loop-i
invariant-loop-i l = Subtracting l.on l.n l.off l.m l.initial.out l.out l.w l.j l.i
