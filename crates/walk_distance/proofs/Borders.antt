-- The borders of a window. Assumes nothing.
use mathlib.Core.Path.{◌≡◌}
use Prim.Native.Nat.{ℕ, ◌+◌, ◌≤◌, ◌<◌, min}
use native.Mathlib.Omega.{arith}
use Rattle.model.specs.Instant.{week}
use Rattle.model.specs.Walk.{Way, on, back, at, reach}
use Rattle.instant.specs.Instant.{nanos, Exact, InRange}
use Rattle.instant.specs.declared.Instant.{Instant}
use Rattle.walk_distance.specs.Distances.{Short, WindowAhead}

-- a window that begins before the range's end
pub ahead_of : (w : Way) (t : ℕ) (x y end : Instant) → Short x → Short y → nanos end ≡ reach w t → nanos x ≤ nanos end → nanos y ≡ min (nanos x + week) (nanos end) → WindowAhead w t x y
ahead_of w t x y end h k e i f = record { start = h; end = k; order = omega arith; near = omega arith; short = omega arith }

-- an instant at a distance up to the range's end lies in the range
pub in-range : (w : Way) (t r : Instant) (x : ℕ) → InRange t → x ≤ reach w (nanos t) → nanos r ≡ at w (nanos t) x → Exact r → InRange r
in-range on t r x h k e n = let a = h.low in let b = h.high in let c = h.ns in record { low = omega arith; high = omega arith; ns = n }
in-range back t r x h k e n = let a = h.low in let b = h.high in let c = h.ns in record { low = omega arith; high = omega arith; ns = n }

-- an instant of the range is a length short of it
pub range-short : (t : Instant) → InRange t → Short t
range-short t h = let b = h.high in record { sec = omega arith; ns = h.ns }

-- an instant between two of the range
pub between-range : (a b t : Instant) → InRange a → InRange b → nanos a ≤ nanos t → nanos t ≤ nanos b → Exact t → InRange t
between-range a b t h k i j n = let x = h.low in let y = k.high in let z = k.ns in record { low = omega arith; high = omega arith; ns = n }
