-- What an instant or a length of time of the code means: a number of nanoseconds, an instant's from -10400-01-01T00:00:00Z, as the definitions count them.
use Rattle.std.specs.Prelude.{ℕ, ◌+◌, ◌*◌, ◌≤◌, ◌<◌}
use Rattle.instant.specs.declared.Instant.{Instant}
use Rattle.model.specs.Instant.{second, first_second, last_second}

abbrev pub nanos : Instant → ℕ
nanos i = i.sec * second + i.ns

-- the nanoseconds are less than a second
abbrev pub Exact : Instant → Type 0
Exact i = i.ns < second

-- what a sum of lengths stays below: 2^63 seconds
abbrev pub most : ℕ
most = 9223372036854775808000000000

-- the second behind the last year that the calendar has, 20799 counted from -10400
abbrev pub years_end : ℕ
years_end = 656384601600

-- an instant of the range, its nanoseconds below a second
pub record InRange (t : Instant) : Type 0 where
  pub low : first_second ≤ t.sec
  pub high : t.sec ≤ last_second
  pub ns : Exact t
