use Rattle.std.proofs.Common.{leb, rules, arith}
use Rattle.std.proofs.lemmas.Grind.{div_ceil_times}
use Rattle.std.proofs.lemmas.List.Sorted.{IsPartitionPoint-from_clause, IsPartitionedBy-leb}
use Rattle.block_pairs.proofs.Adding.{all-started, numbers-rise, half-started}
use Rattle.block_pairs.proofs.started.Goals as goal

pub returns-then-l-n : goal.returns-then-l-n
returns-then-l-n c = all-started _ _ _ c.if-l-n.true

pub returns : goal.returns
returns c =
    let parted = IsPartitionedBy-leb (λ x. x) _ c.args.e (numbers-rise c.args.l.now c.args.n c.args.e c.requires.0 c.requires.1) in
    let point = IsPartitionPoint-from_clause (λ x. leb x c.args.e) _ _ c.partition_point.ensures.partitioned parted (λ a r q k. search rules) in
    half-started _ _ _ c.requires.0 c.requires.1 c.partition_point.result _ c.partition_point.ensures.bound point (rw c.div_ceil.ensures (div_ceil_times c.partition_point.result 2 (omega arith)))
