-- The zone pack. Document 01, "Zone pack and zone": "A record is a name length (1 to 64), the name, and a TZif file (maybe empty); a record
-- whose name isn't whole breaks the layout. Names match without regard to ASCII case; the first match wins."
use Rattle.std.specs.Prelude.{Bool, ◌&&◌, List, [], ◌∷◌, map, ℕ, ◌+◌, ◌-◌, leb, length, take, drop, if◌then◌else◌}
use Rattle.std.proofs.Math.Option.{Option, none, some}
use Rattle.model.specs.Basic.{◌>>=◌, given, need, is_in, each, same_list}
use Rattle.model.specs.Directory.{Part, parts_of, count_of}
use Prim.Native.Char.{code}

pub record Named : Type 0 where
  pub name : List ℕ
  pub file : List ℕ

unfoldable pub named_of : List ℕ → Option Named
named_of [] = none
named_of (n ∷ l) = given (is_in 1 64 n && leb n (length l)) (record { name = take n l; file = drop n l })

-- the pack's records, where its layout holds (else refusal 3). "The pack is a 4-byte count (at most 1,024)"
unfoldable pub pack_of : List ℕ → Option (List Named)
pack_of b = need (leb (count_of b) 1024) >>= λ _. parts_of b >>= λ l. each (λ (p : Part). named_of p.bytes) l

-- an ASCII letter in lower case, any other byte as it is
unfoldable pub lower : ℕ → ℕ
lower c = if is_in (code "A") (code "Z") c then c + (code "a" - code "A") else c

unfoldable pub same_name : List ℕ → List ℕ → Bool
same_name a b = same_list (map lower a) (map lower b)

-- the file of the first record of that name: an empty file is `some []`, an absent name `none`
unfoldable pub find : List ℕ → List Named → Option (List ℕ)
find name [] = none
find name (n ∷ l) = let r = find name l in if same_name n.name name then some n.file else r

unfoldable pub packs : Unit {0}
unfolding named_of pack_of lower same_name find
packs = tt
