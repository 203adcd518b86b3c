-- `answer_all` meets its contract.
use mathlib.Core.Path.{◌≡◌}
use Rattle.query_numbers.proofs.Answering as A
use Prim.Native.Nat.{◌+◌, ◌*◌, ◌/◌, ◌≤◌}
use lib.ListN.{length}
use Rattle.answer_numbers.specs.Outcomes.{written}
use Rattle.query_numbers.specs.Batch.{answers_from}
use Rattle.model.specs.Build.{build}
use Rattle.query_numbers.proofs.answer_all.Given as goal

abbrev pub invariant-loop-left : goal.invariant-loop-left
invariant-loop-left l = (written l.at (answers_from (build l.book l.pack) l.left l.i l.queries) l.out ≡ written 0 (answers_from (build l.book l.pack) (length l.queries / 5) 0 l.queries) l.initial.out) × ((l.i + 5 * l.left ≤ length l.queries) × (l.at + 6 * l.left ≤ length l.out) × (length l.out ≡ length l.initial.out))

abbrev pub decreases-loop-left : goal.decreases-loop-left
decreases-loop-left l = l.left
