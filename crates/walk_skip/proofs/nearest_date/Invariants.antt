-- `walk_skip::nearest_date` meets its contract: the loop keeps the nearest date and what is left of the dates. Assumes nothing.
use Prim.Native.Nat.{◌+◌, ◌*◌, ◌-◌}
use Rattle.model.specs.DayNumber.{day_of}
use Rattle.book.specs.Meaning.{dates_at}
use Rattle.walk_skip.proofs.Near.{Nears}
use Rattle.walk_skip.proofs.nearest_date.Given as goal

abbrev pub invariant-loop-i : goal.invariant-loop-i
invariant-loop-i l = Nears l.book l.back (day_of l.from) l.near (l.p + l.i * 4) (l.n - l.i) (dates_at l.book l.p l.n)
