-- The directory of a pack or a book by index, as the code reads it. proofs/Parts.antt has it that these are the records of the crate `model`.
use Rattle.std.specs.Prelude.{Bool, true, ◌&&◌, List, ℕ, zero, suc, ◌+◌, ◌*◌, leb, length, take, drop}
use Rattle.model.specs.Directory.{Part}
use Rattle.big_endian.specs.Be.{be32}

-- the most bytes of a zone name, which stands in each record of a book or a pack
abbrev pub longest_name : ℕ
longest_name = 64

-- how many entries it says to have; where the record of entry i starts, and how long it is
unfoldable pub entry_count : List ℕ → ℕ
entry_count s = be32 s 0

unfoldable pub start_at : List ℕ → ℕ → ℕ
start_at s i = be32 s (4 + 8 * i)

unfoldable pub len_at : List ℕ → ℕ → ℕ
len_at s i = be32 s (8 + 8 * i)

-- the record of entry i
unfoldable pub part_at : List ℕ → ℕ → Part
part_at s i = record { place = start_at s i; bytes = take (len_at s i) (drop (start_at s i) s) }

-- a record of len bytes at start begins at lo or later, and ends inside
unfoldable pub record_ok : List ℕ → ℕ → ℕ → ℕ → Bool
record_ok s lo start len = leb lo start && leb (start + len) (length s)

-- the k entries from entry i on are in order, the first not before lo
unfoldable pub entries_ok : List ℕ → ℕ → ℕ → ℕ → Bool
entries_ok s lo i zero = true
entries_ok s lo i (suc k) = record_ok s lo (start_at s i) (len_at s i) && entries_ok s (start_at s i + len_at s i) (i + 1) k

-- the directory is whole, and its records lie behind it, in order, inside
unfoldable pub dir_ok : List ℕ → Bool
dir_ok s = leb 4 (length s) && (leb (4 + 8 * entry_count s) (length s) && entries_ok s (4 + 8 * entry_count s) 0 (entry_count s))
