-- The piece is read up to the byte that r reads next, and the answers were written.
use Rattle.std.proofs.Common.{◌≡◌, ◌-◌, length}
use Rattle.model.specs.Build.{build}
use Rattle.clock_run.proofs.Passing.{Passing}
use Rattle.clock_run.proofs.pass.Given as goal

abbrev pub invariant-loop-r : goal.invariant-loop-r
invariant-loop-r g l =
    (length l.out ≡ length l.initial.out)
    × Passing (build l.book l.pack) l.input (g.W.Write.contents l.initial.output) (g.W.Write.contents l.output) l.fn.p l.r l.r.next

abbrev pub decreases-loop-r : goal.decreases-loop-r
decreases-loop-r g l = length l.input - l.r.next
