-- What the functions for C say: a number for each number, in its place.
use Rattle.std.specs.Prelude.{ℕ, ltb, leb}
use Rattle.std.proofs.Math.Option.{Option, none, some}
use Rattle.big_endian.specs.Walk.{pick_n}
use Rattle.model.specs.Tzif.{Zone}
use Rattle.model.specs.Zone.{second_of, offset_at}
use Rattle.laws_zone.specs.Sound.{first_local}
use Rattle.instant.specs.Instant.{years_end}

-- the second of a local second, and 0 for one that cannot be asked for
unfoldable pub second_in : Zone → ℕ → ℕ
second_in z x = pick_n (leb first_local x) (pick_n (ltb x years_end) (second_of z x) 0) 0

-- the offset at a second, and 0 at one that cannot be asked for
unfoldable pub offset_asked : Zone → ℕ → ℕ
offset_asked z u = pick_n (ltb u years_end) (offset_at z u) 0

-- of a file: one that is refused changes nothing
abbrev pub seconds_of : Option Zone → ℕ → ℕ
seconds_of (some z) x = second_in z x
seconds_of none x = x

abbrev pub offsets_of : Option Zone → ℕ → ℕ
offsets_of (some z) u = offset_asked z u
offsets_of none u = u
