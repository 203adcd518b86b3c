-- The zone pack by index, as the code reads it. proofs/Names.antt has it that these are the records of the crate `model`.
use Rattle.std.specs.Prelude as Rust
use Rattle.std.specs.Prelude.{◌≡◌, Bool, ◌&&◌, List, map, ℕ, ◌+◌, ◌-◌, ◌<◌, leb, ltb, length, get_or, take, drop, MatchOption}
use Rattle.std.proofs.Math.Option.{Option, none, some}
use Rattle.model.specs.Basic.{◌>>=◌, is_in, run}
use Rattle.model.specs.Pack.{Named, pack_of, find}
use Rattle.big_endian.specs.Maybe.{is_some}
use Rattle.big_endian.specs.Walk.{all_from}
use Rattle.directory.specs.Directory.{longest_name, entry_count, start_at, len_at, dir_ok}
use Rattle.zone_pack.specs.declared.Found.{Found}

-- the name and the file of a record of len bytes at start
unfoldable pub named_from : List ℕ → ℕ → ℕ → Named
named_from s start len =
    let n = get_or s start 0 in
    record { name = take n (drop (start + 1) s); file = take (start + len - (start + 1 + n)) (drop (start + 1 + n) s) }

-- those of entry i
unfoldable pub named_at : List ℕ → ℕ → Named
named_at s i = named_from s (start_at s i) (len_at s i)

-- a record of len bytes at start has a whole name, neither empty nor too long
unfoldable pub name_ok : List ℕ → ℕ → ℕ → Bool
name_ok s start len = is_in 1 longest_name (get_or s start 0) && ltb (get_or s start 0) len

abbrev pub name_at_ok : List ℕ → ℕ → Bool
name_at_ok s i = name_ok s (start_at s i) (len_at s i)

-- document 01's limit: the most zones of a pack
abbrev pub most_zones : ℕ
most_zones = 1024

-- the pack keeps its layout, by the code's tests and by the definitions
unfoldable pub pack_ok : List ℕ → Bool
pack_ok s = leb (entry_count s) most_zones && (dir_ok s && all_from (name_at_ok s) 0 (entry_count s))

abbrev pub is_pack : List ℕ → Bool
is_pack s = is_some (pack_of s)

-- the zone file of a name in a pack: none where the pack breaks its layout or has no such name
unfoldable pub zone_file : List ℕ → List ℕ → Option (List ℕ)
zone_file p name = pack_of p >>= λ l. find name l

-- r is the file of entry i, a part of the pack that begins at r.at
pub record IsFileOf (p : List ℕ) (i : ℕ) (r : Found) : Type 0 where
  pub file : r.file.now ≡ (named_at p i).file
  pub part : r.file.now ≡ take (length r.file.now) (drop r.at p)

-- the file of the first of a pack's first n records that has the name
abbrev pub first_file : List ℕ → List ℕ → ℕ → Option (List ℕ)
first_file p name n = find name (map (named_at p) (run 0 n))

-- r is the first of a pack's first n records that has the name
abbrev pub FindsEntry : List ℕ → List ℕ → ℕ → Rust.Option ℕ → Type 0
FindsEntry p name n r = MatchOption r (first_file p name n ≡ none) (λ i. (i < n) × (first_file p name n ≡ some (named_at p i).file))

-- r is the zone file of the name, a part of the pack that begins at r.at
pub record IsZone (p name : List ℕ) (r : Found) : Type 0 where
  pub file : zone_file p name ≡ some r.file.now
  pub part : r.file.now ≡ take (length r.file.now) (drop r.at p)

-- what the finder answers: none where there is no zone file of the name, and else that file. Document 01: "a yes or no beside it tells an absent name
-- from an empty file".
abbrev pub FindsZone : List ℕ → List ℕ → Rust.Option Found → Type 0
FindsZone p name r = MatchOption r (zone_file p name ≡ none) (λ f. IsZone p name f)
