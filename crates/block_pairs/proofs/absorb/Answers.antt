use Rattle.std.proofs.Common.{◌*◌, ◌+◌, ◌-◌, arith, length-set}
use Rattle.block_pairs.specs.Pairs.{Lowered}
use Rattle.block_pairs.proofs.Moving.{lowered, stands}
use Rattle.block_pairs.proofs.Adding.{absorbed}
use Rattle.block_pairs.proofs.absorb.Goals.{then-j-i, else-j-i}
use Rattle.block_pairs.proofs.absorb.Goals as goal

pub returns : goal.returns
returns c =
    let m : Lowered c.args.l.now c.if-j-i.l (2 * c.args.j + 2) (2 * c.args.i) (2 * c.args.n - 2 * c.args.i) = elim c.if-j-i.branch [
      | then-j-i w ↦ rw w.l-is (lowered _ _ _ _ _ w.copy_within.ensures.len w.copy_within.ensures.by_index.0 w.copy_within.ensures.by_index.1)
      | else-j-i w ↦ rw w.l-is (stands _ _ _ _ (omega arith))
    ] in
    (absorbed _ _ _ _ _ _ _ _ _ c.min-from.ensures c.max-to.ensures c.requires.0 c.requires.1 c.requires.2 m, omega arith, simp length-set m.long)
