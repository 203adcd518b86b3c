-- Big-endian numbers at a place of a list of bytes, most significant byte first. A place past the end reads as 0.
-- Where the number lies inside, it is the number that the crate `model` reads there (proofs/Lists.antt, `at-2`, `at-4`, `at_8`).
use Rattle.std.specs.Prelude.{ℕ, ◌+◌, ◌*◌, List, get_or}

-- how many numbers two and four bytes can hold
abbrev pub two_bytes : ℕ
two_bytes = 65536

abbrev pub four_bytes : ℕ
four_bytes = 4294967296

-- two, four and eight bytes at i
unfoldable pub be16 : List ℕ → ℕ → ℕ
be16 s i = get_or s i 0 * 256 + get_or s (i + 1) 0

unfoldable pub be32 : List ℕ → ℕ → ℕ
be32 s i = ((get_or s i 0 * 256 + get_or s (i + 1) 0) * 256 + get_or s (i + 2) 0) * 256 + get_or s (i + 3) 0

unfoldable pub be64 : List ℕ → ℕ → ℕ
be64 s i = be32 s i * four_bytes + be32 s (i + 4)
