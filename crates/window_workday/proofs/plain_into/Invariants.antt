-- `window_workday::plain_into` meets its contract. Assumes nothing.
use mathlib.Core.Path.{◌≡◌}
use Prim.Native.Nat.{◌+◌}
use Rattle.model.specs.Calendar.{contains, weekday}
use Rattle.model.specs.DayNumber.{day_of}
use Rattle.window_piece.proofs.Fills.{Dating}
use Rattle.window_piece.specs.Filled.{midnight, plain_piece}
use Rattle.window_workday.proofs.plain_into.Given as goal

abbrev pub invariant-loop-i : goal.invariant-loop-i
invariant-loop-i l = Dating l.lo (λ x. contains l.set (weekday x)) (plain_piece (record { first = l.initial.k; lo = l.lo; hi = l.hi }) (day_of l.first) l.a l.b) (day_of l.first) l.count l.initial.out l.w l.out l.n l.i × (l.k ≡ midnight l.initial.k (day_of l.first) (day_of l.first + l.i))
