-- Instants and durations as the pairs of signed numbers that document 01 has, seconds and nanoseconds, at their full ranges; and the whole
-- number of nanoseconds that a pair is.
use Rattle.std.specs.Prelude.{◌^◌, ◌<◌, List, [], ◌∷◌, ℤ, pos, neg_ℤ, nat_abs, ◌+ℤ◌, ◌*ℤ◌, ◌≤ℤ◌, ◌<ℤ◌}
use Rattle.model.specs.Instant.{second}

pub record Pair : Type 0 where
  pub sec : ℤ
  pub ns : ℤ

abbrev pub nanos_of : Pair → ℤ
nanos_of p = p.sec *ℤ pos second +ℤ p.ns

-- "First: -377,705,023,201 s, 0 ns. Last: 253,402,207,200 s, 999,999,999 ns."
pub record IsInstant (p : Pair) : Type 0 where
  pub first : neg_ℤ (pos 377705023201) ≤ℤ p.sec
  pub last : p.sec ≤ℤ pos 253402207200
  pub low : pos 0 ≤ℤ p.ns
  pub high : p.ns ≤ℤ pos 999999999

-- "signed 64-bit seconds and nanoseconds below 10^9 in size; the two never have opposite signs"
pub record IsDuration (p : Pair) : Type 0 where
  pub low : neg_ℤ (pos (2 ^ 63)) ≤ℤ p.sec
  pub high : p.sec <ℤ pos (2 ^ 63)
  pub small : nat_abs p.ns < second
  pub above : pos 0 <ℤ p.sec → pos 0 ≤ℤ p.ns
  pub below : p.sec <ℤ pos 0 → p.ns ≤ℤ pos 0

-- the two numbers as an answer lists them
abbrev pub listed_pair : Pair → List ℤ
listed_pair p = p.sec ∷ p.ns ∷ []
