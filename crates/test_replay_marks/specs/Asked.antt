-- What is asked of an end of a block before its mark is asked for.
use Rattle.std.specs.Prelude.{◌≤◌}
use Rattle.instant.specs.Instant.{nanos, InRange}
use Rattle.instant.specs.declared.Instant.{Instant}

-- the instant is one of the range, and lies in the window or at its end
pub record Within (lo hi u : Instant) : Type 0 where
  pub in-range : InRange u
  pub from-lo : nanos lo ≤ nanos u
  pub upto-hi : nanos u ≤ nanos hi
