-- The limits of a file of cases, and what is asked of an answer.
use Rattle.std.specs.Prelude.{Bool, List, ℕ, ◌+◌, eqb, ℤ}
use Rattle.big_endian.specs.Be.{be32, be64}
use Rattle.big_endian.specs.Walk.{both}
use Rattle.instant_signed.specs.Signed.{biased}

-- the most bytes of a file
abbrev pub longest_file : ℕ
longest_file = 300000

-- the most parts of a case
abbrev pub most_parts : ℕ
most_parts = 4

-- the number is the one that a question has in eight bytes at a place
unfoldable pub is_number_at : List ℕ → ℕ → ℤ → Bool
is_number_at q at x = eqb (biased x) (be64 q at)

-- the refusal's number and its place are those that a question has at a place, four bytes each
unfoldable pub is_refusal_at : List ℕ → ℕ → ℕ → ℕ → Bool
is_refusal_at q at number place = both (eqb number (be32 q at)) (eqb place (be32 q (at + 4)))
