-- A zone file. RFC 8536 section 3 (TZif); document 01, "Zone pack and zone": "A usable file has: ..".
-- Times are seconds from -10400-01-01T00:00:00Z (earlier ones count as that second), offsets seconds east of Greenwich plus 93,600.
use Rattle.std.specs.Prelude.{Bool, true, false, ◌&&◌, ◌||◌, List, [], ◌∷◌, map, ℕ, ◌+◌, ◌*◌, ◌-◌, ◌^◌, leb, ltb, eqb, length, get_or, take, drop, if◌then◌else◌}
use Rattle.std.proofs.Math.Option.{Option, none, some}
use Rattle.model.specs.Basic.{◌>>=◌, given, need, is_in, all, same_list}
use Rattle.model.specs.Bytes.{be, words, pieces, lifted, newline}
use Rattle.model.specs.Instant.{epoch}
use Rattle.model.specs.Offset.{offset_bias, greatest_offset}
use Rattle.model.specs.Footer.{Footer, footer_of}

-- "1 to 256 types, at most 2,048 transitions"
abbrev pub most_types : ℕ
most_types = 256

abbrev pub most_transitions : ℕ
most_transitions = 2048

-- RFC 8536 section 3: the bytes of a header, and of a type
abbrev pub header_size : ℕ
header_size = 44

abbrev pub type_size : ℕ
type_size = 6

-- the bytes "TZif" as one number
abbrev pub magic : ℕ
magic = 0x545A6966

-- a header's version and counts
pub record Header : Type 0 where
  pub version : ℕ
  pub uts : ℕ
  pub stds : ℕ
  pub leaps : ℕ
  pub times : ℕ
  pub types : ℕ
  pub chars : ℕ

-- the version's byte of a header
abbrev pub version_of : List ℕ → ℕ
version_of f = get_or f 4 0

-- RFC 8536 section 3.1: "TZif", the version, fifteen bytes, six counts. Document 01: "'2' or '3'"
unfoldable pub header_of : List ℕ → Option Header
header_of f =
    let n = words 4 6 (drop 20 f) in
    let v = version_of f in
    given (leb header_size (length f) && (eqb (be 4 f) magic && is_in 50 51 v)) (record {
      version = v;
      uts = get_or n 0 0;
      stds = get_or n 1 0;
      leaps = get_or n 2 0;
      times = get_or n 3 0;
      types = get_or n 4 0;
      chars = get_or n 5 0;
    })

-- RFC 8536 section 3.2: the size of a data block whose times take w bytes
abbrev pub size_of : ℕ → Header → ℕ
size_of w h = h.times * (w + 1) + h.types * type_size + h.chars + h.leaps * (w + 4) + h.stds + h.uts

-- "strictly ascending"
unfoldable pub rising : List ℕ → Bool
rising [] = true
rising (a ∷ []) = true
rising (a ∷ b ∷ l) = let r = rising (b ∷ l) in if ltb a b then r else false

-- the offset in a type's six bytes, 0 for one below -93,599 s
abbrev pub offset_in : List ℕ → ℕ
offset_in t = lifted 4 (be 4 t) - (2 ^ 31 - offset_bias)

-- "offsets from -93,599 to 93,599 s", "flags 0 or 1, abbreviation indices inside a non-empty table"
unfoldable pub type_ok : ℕ → List ℕ → Bool
type_ok chars t = is_in 1 greatest_offset (offset_in t) && (ltb (get_or t 4 0) 2 && ltb (get_or t 5 0) chars)

-- "indicator counts 0 or the type count"
abbrev pub zero_or : ℕ → ℕ → Bool
zero_or k n = eqb n 0 || eqb n k

-- "1 to 256 types, at most 2,048 transitions", a "non-empty table" of abbreviations, "no leap records"
unfoldable pub counts_ok : Header → Bool
counts_ok h =
    is_in 1 most_types h.types
    && (leb h.times most_transitions && (leb 1 h.chars && (eqb h.leaps 0 && (zero_or h.types h.stds && zero_or h.types h.uts))))

pub record Change : Type 0 where
  pub time : ℕ
  pub offset : ℕ

-- the offset before the first change, the changes, and the footer's bytes
pub record Table : Type 0 where
  pub initial : ℕ
  pub changes : List Change
  pub line : List ℕ

-- the offset before the first change, the changes, and what rules from the last one on
pub record Zone : Type 0 where
  pub initial : ℕ
  pub changes : List Change
  pub footer : Footer

-- transition times (with 2 ^ 63 added) and type numbers, given the types' offsets
unfoldable pub changes_of : List ℕ → List ℕ → List ℕ → List Change
changes_of offs [] ks = []
changes_of offs (t ∷ ts) [] = []
changes_of offs (t ∷ ts) (k ∷ ks) = record { time = t - (2 ^ 63 - epoch); offset = get_or offs k 0 } ∷ changes_of offs ts ks

-- "then newline, footer, newline and nothing behind"
unfoldable pub line_of : List ℕ → Option (List ℕ)
line_of [] = none
line_of (c ∷ s) = let n = length s - 1 in given (eqb c newline && same_list (drop n s) (newline ∷ [])) (take n s)

-- the second data block and what is behind it. RFC 8536 section 3.2: transition times, type numbers, types, abbreviations, (leap records,)
-- standard indicators, UT indicators
unfoldable pub table_in : Header → List ℕ → Option Table
table_in h b =
    let times = map (lifted 8) (words 8 h.times b) in
    let kinds = take h.times (drop (h.times * 8) b) in
    let types = pieces type_size h.types (drop (h.times * 9) b) in
    let marks = take (h.stds + h.uts) (drop (h.times * 9 + h.types * type_size + h.chars) b) in
    let offs = map offset_in types in
    need (counts_ok h) >>= λ _.
    line_of (drop (size_of 8 h) b) >>= λ line.
    need (rising times && (all (λ k. ltb k h.types) kinds && (all (type_ok h.chars) types && all (λ m. ltb m 2) marks))) >>= λ _.
    some (record { initial = get_or offs 0 0; changes = changes_of offs times kinds; line = line })

-- a usable file's table. "'2' or '3', in both headers; its first data block skipped by its own counts"
unfoldable pub table_of : List ℕ → Option Table
table_of f =
    header_of f >>= λ h.
    let g = drop (header_size + size_of 4 h) f in
    header_of g >>= λ k.
    need (eqb h.version k.version) >>= λ _.
    table_in k (drop header_size g)

-- a table's zone, given its footer
abbrev pub zone_with : Table → Footer → Zone
zone_with t foot = record { initial = t.initial; changes = t.changes; footer = foot }

-- a usable file's zone: its table, and the footer that its line spells in the file's version
unfoldable pub zone_of : List ℕ → Option Zone
zone_of f = table_of f >>= λ t. footer_of (version_of f) t.line >>= λ foot. some (zone_with t foot)

unfoldable pub tzif : Unit {0}
unfolding header_of rising type_ok counts_ok changes_of line_of table_in table_of zone_of
tzif = tt
