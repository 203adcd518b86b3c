-- The next change of a zone's offset after a second.
use Rattle.std.specs.Prelude.{Bool, ℕ, zero, suc, ◌-◌, if◌then◌else◌}
use Rattle.std.proofs.Math.Option.{Option, none, some}
use Rattle.model.specs.Instant.{last_second}
use Rattle.model.specs.Tzif.{Zone}
use Rattle.model.specs.Zone.{is_change}

-- the first of the n seconds from v on at which the test passes
unfoldable pub first_of : (ℕ → Bool) → ℕ → ℕ → Option ℕ
first_of t v zero = none
first_of t v (suc n) = let r = first_of t (suc v) n in if t v then some v else r

-- the first second after u, up to the last of the range, at which the zone's offset differs from its offset a second before; none if there is no such second.
-- Computing it goes from second to second; crate zone_next_change, NextLaws, has what it means (`next-means`) and a shorter way to compute it (`steady-next`)
unfoldable pub next_change : Zone → ℕ → Option ℕ
next_change z u = first_of (is_change z) (suc u) (last_second - u)

unfoldable pub next_changes : Unit {0}
unfolding first_of next_change
next_changes = tt
