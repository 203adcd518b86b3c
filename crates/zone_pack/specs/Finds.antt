-- What the finder's answer tells, as a yes or no, a list that is empty where nothing is found, and a place beside it.
use Rattle.std.specs.Prelude as Rust
use Rattle.std.specs.Prelude.{◌≡◌, refl, Bool, true, false, List, [], ℕ, Some, None, length, take, drop}
use Rattle.std.proofs.Common.{sym, ap}
use Rattle.big_endian.specs.Maybe.{is_some, or_empty}
use Rattle.zone_pack.specs.Pack.{zone_file, FindsZone}
use Rattle.zone_pack.specs.declared.Found.{Found}

-- a zone file was found
abbrev pub is_found : Rust.Option Found → Bool
is_found (Some f) = true
is_found None = false

-- its bytes, and none where nothing was found
abbrev pub file_of : Rust.Option Found → List ℕ
file_of (Some f) = f.file.now
file_of None = []

-- where it begins
abbrev pub place_of : Rust.Option Found → ℕ
place_of (Some f) = f.at
place_of None = 0

pub file : (p name : List ℕ) (r : Rust.Option Found) → FindsZone p name r → file_of r ≡ or_empty (zone_file p name)
file p name (Some f) h = ap or_empty (sym h.file)
file p name None h = ap or_empty (sym h)

pub found : (p name : List ℕ) (r : Rust.Option Found) → FindsZone p name r → is_found r ≡ is_some (zone_file p name)
found p name (Some f) h = ap is_some (sym h.file)
found p name None h = ap is_some (sym h)

pub part : (p name : List ℕ) (r : Rust.Option Found) → FindsZone p name r → file_of r ≡ take (length (file_of r)) (drop (place_of r) p)
part p name (Some f) h = h.part
part p name None h = refl
