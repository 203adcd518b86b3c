-- `walk_list_week::join_window` meets its contract: the loop keeps `Joining`, of proofs/Turns.antt. Assumes nothing.
use Rattle.walk_list_week.proofs.Turns.{Joining, left}
use Rattle.walk_list_week.specs.Stretched.{open_of}
use Rattle.block_pairs.specs.Pairs.{pairs}
use Rattle.laws_blocks.specs.Move.{moves}
use Rattle.instant.specs.Instant.{nanos}
use Rattle.walk_list_week.proofs.join_window.Given as goal

abbrev pub invariant-loop-i : goal.invariant-loop-i
invariant-loop-i l = Joining l.write (moves (nanos l.lo) (pairs l.n l.l)) l.initial.out (open_of l.initial.last) l.initial.count (left (nanos l.lo) l.n l.l l.i) l.out (open_of l.last) l.count
