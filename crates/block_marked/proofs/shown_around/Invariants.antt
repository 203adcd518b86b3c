-- What the blocks in front of the present one show around u.
use Rattle.instant.specs.Instant.{nanos}
use Rattle.block_marked.proofs.Scan.{Scanning}
use Rattle.block_marked.proofs.shown_around.Given as goal

abbrev pub invariant-loop-x : goal.invariant-loop-x
invariant-loop-x l = Scanning (nanos l.u) l.l l.a l.x-index
