-- What a call that writes all of its bytes, or fails, does to the bytes that a writer holds; and one that reads until its buffer is full.
use Rattle.std.specs.Prelude.{ℕ, ◌<◌, List, length, take, Option, Result, MatchResult, IfOk}
use Rattle.std.specs.Io.KnownBytes.{Appends, Consumes, IsAtEnd}

-- all bytes were appended, or where the write failed their front
abbrev pub AppendsFront : {T E : Type 0} → Option (List ℕ) → Option (List ℕ) → Result T E → List ℕ → Type 0
AppendsFront old new r bytes = MatchResult r (λ _. Appends old new bytes) (λ _. (n : ℕ) × Appends old new (take n bytes))

-- the n bytes that were given were consumed, and where there was room for more the end was met
abbrev pub ReadsFull : {E : Type 0} → Option (List ℕ) → Option (List ℕ) → Result ℕ E → List ℕ → Type 0
ReadsFull old new r buf = IfOk r (λ n. Consumes old new (take n buf) × (n < length buf → IsAtEnd new))
