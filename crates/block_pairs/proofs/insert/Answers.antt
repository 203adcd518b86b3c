use Rattle.std.proofs.Common.{◌*◌, arith, length-set}
use Rattle.block_pairs.specs.Pairs.{Raised}
use Rattle.block_pairs.proofs.Moving.{raised}
use Rattle.block_pairs.proofs.Adding.{inserted}
use Rattle.block_pairs.proofs.insert.Goals as goal

pub returns : goal.returns
returns c =
    let m : Raised c.args.l.now c.copy_within.new.self (2 * c.args.i) (2 * c.args.n) = raised _ _ _ _ c.copy_within.ensures.len c.copy_within.ensures.by_index.0 c.copy_within.ensures.by_index.1 in
    (inserted _ _ _ _ _ _ c.requires.0 c.requires.1 m, omega arith, simp length-set c.copy_within.ensures.len)
