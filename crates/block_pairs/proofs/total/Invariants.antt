-- `block_pairs::total` meets its contract. Assumes nothing.
use Rattle.block_pairs.proofs.Cutting.{Summing}
use Rattle.block_pairs.proofs.total.Given as goal

abbrev pub invariant-loop-i : goal.invariant-loop-i
invariant-loop-i l = Summing l.l l.n l.sum l.i
