-- Bytes written into memory at a place, and the lines that are written so.
use Rattle.std.specs.Prelude.{◌≡◌, List, [], ◌∷◌, ◌++◌, ℕ, ◌+◌, ◌≤◌, length, take, drop, ℤ, pos}
use Rattle.std.proofs.Math.Option.{none, some}
use Rattle.model.specs.Answer.{gives, refuses}
use Rattle.model.specs.Lines.{Count, digits_from, shown, printed}

-- the most digits of a number of 64 bits
abbrev pub most_digits : ℕ
most_digits = 20

-- the most bytes of a line
abbrev pub longest : ℕ
longest = 128

-- in `new` the bytes s stand from `at` on and end before `end`; all other bytes are those of `old`
pub record Placed (old new : List ℕ) (at end : ℕ) (s : List ℕ) : Type 0 where
  pub behind : end ≡ at + length s
  pub bytes : new ≡ take at old ++ s ++ drop end old

-- the same, and they are at most n bytes
abbrev pub PlacedIn : ℕ → List ℕ → List ℕ → ℕ → ℕ → List ℕ → Type 0
PlacedIn n old new at end s = Placed old new at end s × (end ≤ at + n)

-- the bytes of a line
abbrev pub PlacedLine : List ℕ → List ℕ → ℕ → ℕ → List ℕ → Type 0
PlacedLine old new at end s = PlacedIn longest old new at end s

-- prints this number of windows
abbrev pub exactly : ℕ → Count
exactly n least most = shown (pos n)

-- two bytes before a text
abbrev pub two : ℕ → ℕ → List ℕ → List ℕ
two a b s = a ∷ b ∷ s

-- a space, a minus sign and the digits of n
abbrev pub minus_text : ℕ → List ℕ
minus_text n = two 32 45 (digits_from most_digits n [])

-- the line of seconds, nanoseconds and a number of windows, whatever numbers of windows the definitions have
abbrev pub PlacedCounted : List ℕ → List ℕ → ℕ → ℕ → ℤ → ℤ → ℕ → Type 0
PlacedCounted old new at end sec ns windows =
    ((w : ℕ × ℕ) → Placed old new at end (printed (exactly windows) (gives (record { values = sec ∷ ns ∷ []; windows = some w }))))
    × (end ≤ at + longest)

-- the line of a period from one instant to another, whatever prints numbers of windows
abbrev pub PlacedPeriod : List ℕ → List ℕ → ℕ → ℕ → ℤ → ℤ → ℤ → ℤ → Type 0
PlacedPeriod old new at end sec ns sec2 ns2 =
    ((count : Count) → Placed old new at end (printed count (gives (record { values = sec ∷ ns ∷ sec2 ∷ ns2 ∷ []; windows = none }))))
    × (end ≤ at + longest)

-- the line of a refusal, whatever prints numbers of windows
abbrev pub PlacedRefusal : List ℕ → List ℕ → ℕ → ℕ → ℕ → ℕ → Type 0
PlacedRefusal old new at end number place =
    ((count : Count) → Placed old new at end (printed count (refuses number place))) × (end ≤ at + longest)
