-- The second data block of a zone file read by place, as the code reads it: what makes it usable. It starts at b. A place past the end reads as 0.
use Rattle.std.specs.Prelude.{Bool, ◌&&◌, List, ℕ, ◌+◌, ◌*◌, ◌-◌, ◌^◌, ltb, eqb, length, get_or}
use Rattle.model.specs.Basic.{is_in}
use Rattle.model.specs.Bytes.{lifted, newline}
use Rattle.model.specs.Tzif.{size_of, counts_ok, type_size}
use Rattle.model.specs.Offset.{offset_bias, greatest_offset}
use Rattle.big_endian.specs.Be.{be32, be64}
use Rattle.big_endian.specs.Walk.{all_from, rises_at}
use Rattle.zone_tzif_head.specs.Heads.{header_is}
use Rattle.zone_tzif_head.specs.declared.Head.{Head}

-- the bytes of a time and of a transition, a time and a type number
abbrev pub time_size : ℕ
time_size = 8

abbrev pub transition_size : ℕ
transition_size = 9

-- a bound above the places at which a second data block may start, headers_end and a header
abbrev pub blocks_end : ℕ
blocks_end = 1099511627820

-- a bound above all places of such a block, 2^50
abbrev pub places_end : ℕ
places_end = 1125899906842624

-- transition i's time with 2 ^ 63 added
unfoldable pub key_at : List ℕ → ℕ → ℕ → ℕ
key_at f b i = lifted time_size (be64 f (b + time_size * i))

-- byte i from b on is below n
unfoldable pub byte_below : List ℕ → ℕ → ℕ → ℕ → Bool
byte_below f b n i = ltb (get_or f (b + i) 0) n

-- an offset of four bytes, with the 26 hours added; 0 for one below -93,599 s
unfoldable pub type_offset : ℕ → ℕ
type_offset v = lifted 4 v - (2 ^ 31 - offset_bias)

-- type i of those from b on
unfoldable pub type_fits : List ℕ → ℕ → ℕ → ℕ → Bool
type_fits f b chars i =
    is_in 1 greatest_offset (type_offset (be32 f (b + type_size * i)))
    && (ltb (get_or f (b + type_size * i + 4) 0) 2 && ltb (get_or f (b + type_size * i + 5) 0) chars)

-- where type numbers, types, indicators and the footer's newline stand
abbrev pub kinds_at : ℕ → ℕ → ℕ
kinds_at b n = b + n * time_size

abbrev pub types_at : ℕ → ℕ → ℕ
types_at b n = b + n * transition_size

abbrev pub marks_at : ℕ → Head → ℕ
marks_at b h = b + (h.times * transition_size + h.types * type_size + h.chars)

abbrev pub tail_at : ℕ → Head → ℕ
tail_at b h = b + size_of 8 (header_is h)

-- a newline at t and another one as the last byte
unfoldable pub tail_ok : List ℕ → ℕ → Bool
tail_ok f t = ltb (t + 1) (length f) && (eqb (get_or f t 0) newline && eqb (get_or f (length f - 1) 0) newline)

-- n transition times are strictly ascending
abbrev pub times_rise : List ℕ → ℕ → ℕ → Bool
times_rise f b n = all_from (rises_at (key_at f b)) 0 (n - 1)

-- times, type numbers, types and indicators are allowed
unfoldable pub tables_ok : List ℕ → ℕ → Head → Bool
tables_ok f b h =
    times_rise f b h.times
    && (all_from (byte_below f (kinds_at b h.times) h.types) 0 h.times
    && (all_from (type_fits f (types_at b h.times) h.chars) 0 h.types
    && all_from (byte_below f (marks_at b h) 2) 0 (h.stds + h.uts)))

-- the block is usable, and so are the lines about its footer
unfoldable pub block_ok : List ℕ → ℕ → Head → Bool
block_ok f b h = counts_ok (header_is h) && (tail_ok f (tail_at b h) && tables_ok f b h)
