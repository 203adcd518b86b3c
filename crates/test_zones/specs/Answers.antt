-- A stored answer: where its two numbers stand, and what makes it the zone's own.
use Rattle.std.specs.Prelude.{ℕ, ◌+◌, ◌-◌, ◌*◌, ◌%◌, ◌^◌, Bool, false, List, ◌==◌, nat_le, nat_lt, if◌then◌else◌}
use Rattle.std.proofs.Math.Option.{Option, none, some}
use Rattle.big_endian.specs.Be.{be64}
use Rattle.big_endian.specs.Walk.{both}
use Rattle.model.specs.Zone.{second_of}
use Rattle.model.specs.NextChange.{next_change}
use Rattle.zone.specs.Zones.{zone_is}
use Rattle.zone.specs.declared.Zone.{Zone}
use Rattle.laws_zone.specs.Sound.{first_local}
use Rattle.instant.specs.Instant.{years_end}
use Rattle.model.specs.Offset.{offset_bias}
use Rattle.model.specs.Instant.{epoch}

-- the most bytes of a file that are read
abbrev pub file_size : ℕ
file_size = 65536

-- the bytes of a stored answer
abbrev pub pair_size : ℕ
pair_size = 16

-- a signed number of eight bytes, with k added
unfoldable pub signed_plus : List ℕ → ℕ → ℕ → ℕ
signed_plus a i k = (be64 a i + k) % 2 ^ 64

-- the local second of pair i, with the 26 hours added, and the second of pair i
abbrev pub local_at : List ℕ → ℕ → ℕ
local_at a i = signed_plus a (pair_size * i) (epoch + offset_bias)

abbrev pub answer_at : List ℕ → ℕ → ℕ
answer_at a i = signed_plus a (pair_size * i + 8) epoch

-- there is a next change, and it is at v
unfoldable pub is_next : Option ℕ → ℕ → Bool
is_next none v = false
is_next (some w) v = w == v

-- pair i is a local time that can be asked for, and the zone gives its second; or it lies beyond those, and the zone's next change is its second number
unfoldable pub agrees_at : List ℕ → Zone → List ℕ → ℕ → Bool
agrees_at f z a i =
    both (nat_le first_local (local_at a i))
    (if nat_lt (local_at a i) years_end then (second_of (zone_is f z) (local_at a i) == answer_at a i) else is_next (next_change (zone_is f z) (local_at a i - years_end)) (answer_at a i))
