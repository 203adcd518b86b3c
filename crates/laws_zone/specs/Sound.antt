-- What the laws of working time need of a zone, seen from its offsets alone. Every zone that a usable file makes has it, and so has UTC.
use Rattle.std.specs.Prelude.{◌≡◌, true, ℕ, ◌+◌, ◌≤◌}
use Rattle.model.specs.Tzif.{Zone}
use Rattle.model.specs.Offset.{greatest_offset}
use Rattle.model.specs.Zone.{offset_at, steady, second_of}

-- the second of -10000-01-01T00:00:00Z: no call looks at an earlier one
abbrev pub dawn : ℕ
dawn = 12622780800

-- the first local second, with the 26 hours added, that is asked for: one more than the greatest offset
abbrev pub first_local : ℕ
first_local = greatest_offset + 1

pub record Sound (z : Zone) : Type 0 where
  -- offsets, with the 26 hours added, lie from -93,599 s to 93,599 s
  pub low : (u : ℕ) → 1 ≤ offset_at z u
  pub high : (u : ℕ) → offset_at z u ≤ greatest_offset
  -- a local second that some second reads takes the least such second
  pub least : (u l : ℕ) → dawn + first_local ≤ l → u + offset_at z u ≡ l → (second_of z l + offset_at z (second_of z l) ≡ l) × (second_of z l ≤ u)
  -- in any case it takes the local second less an offset that the zone has
  pub some : (l : ℕ) → dawn + first_local ≤ l → (w : ℕ) × (dawn ≤ w) × (second_of z l + offset_at z w ≡ l)
  -- a span without change has one offset
  pub same : (a b : ℕ) → dawn ≤ a → steady z a b ≡ true → (u : ℕ) → a ≤ u → u ≤ b → offset_at z u ≡ offset_at z a
