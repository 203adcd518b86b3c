-- The directory of a pack or a book. Document 01, "Zone pack and zone": "a 4-byte count, then that many pairs of offset and length
-- (4 bytes each, offsets from the pack's start), sorted by offset. Records start behind the directory, don't overlap and end inside the
-- pack; bytes between them are ignored."
use Rattle.std.specs.Prelude.{◌&&◌, List, [], ◌∷◌, ℕ, zero, suc, ◌+◌, ◌*◌, ◌-◌, leb, length, take, drop}
use Rattle.std.proofs.Math.Option.{Option, some}
use Rattle.model.specs.Basic.{◌>>=◌, need}
use Rattle.model.specs.Bytes.{be}

-- a record: where it starts, and its bytes
pub record Part : Type 0 where
  pub place : ℕ
  pub bytes : List ℕ

-- the n records of the directory d in a file of the given size, none of which starts before lo; b is the file from lo on
unfoldable pub parts_from : ℕ → ℕ → ℕ → List ℕ → List ℕ → Option (List Part)
parts_from size zero lo d b = some []
parts_from size (suc n) lo d b =
    let o = be 4 d in
    let k = be 4 (drop 4 d) in
    let r = drop (o - lo) b in
    need (leb lo o && leb (o + k) size) >>= λ _.
    parts_from size n (o + k) (drop 8 d) (drop k r) >>= λ rest.
    some (record { place = o; bytes = take k r } ∷ rest)

abbrev pub count_of : List ℕ → ℕ
count_of b = be 4 b

-- the records of a file
unfoldable pub parts_of : List ℕ → Option (List Part)
parts_of b =
    let n = count_of b in
    let size = length b in
    need (leb 4 size && leb (4 + 8 * n) size) >>= λ _.
    parts_from size n (4 + 8 * n) (drop 4 b) (drop (4 + 8 * n) b)

unfoldable pub directory : Unit {0}
unfolding parts_from parts_of
directory = tt
