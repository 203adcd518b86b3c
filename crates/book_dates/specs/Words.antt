-- Four-byte numbers that stand one behind the other in a list of bytes.
use Rattle.std.specs.Prelude.{Bool, true, false, List, [], ◌∷◌, ℕ, zero, suc, ◌+◌, ◌*◌, ◌/◌, ◌%◌, ltb, if◌then◌else◌}
use Rattle.big_endian.specs.Be.{two_bytes, be32}

-- the n numbers from p on
unfoldable pub words_at : List ℕ → ℕ → ℕ → List ℕ
words_at b p zero = []
words_at b p (suc n) = be32 b p ∷ words_at b (p + 4) n

-- the first is above m, and each other above the one before it
unfoldable pub rises : ℕ → List ℕ → Bool
rises m [] = true
rises m (x ∷ l) = if ltb m x then rises x l else false

-- how many marks there are
abbrev pub mark_count : ℕ
mark_count = 8192

-- the mark of a number: equal numbers have the same. A month has 31, and a year 12 times as many
unfoldable pub slot_of : ℕ → ℕ
slot_of w = (w / two_bytes * 372 + w / 256 % 256 * 31 + w % 256) % mark_count
