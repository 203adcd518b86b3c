-- A zone file read by place: what makes it usable, and the table's layout, as the code reads them. Its headers and its second data block are those of
-- the crates zone_tzif_head and zone_tzif_block. proofs/Bridge.antt shows that this is the crate `model`'s reading. A place past the end reads as 0.
use Rattle.std.specs.Prelude.{Bool, ◌&&◌, List, [], ◌∷◌, ℕ, zero, suc, ◌+◌, ◌*◌, ◌-◌, ◌^◌, eqb, length, get_or, take, drop, if◌then◌else◌, Option, None, Some}
use Rattle.model.specs.Instant.{epoch}
use Rattle.model.specs.Tzif.{Change, Table, type_size, header_size}
use Rattle.big_endian.specs.Be.{be32}
use Rattle.zone_tzif_head.specs.Heads.{head_ok, head_at, second_at}
use Rattle.zone_tzif_head.specs.declared.Head.{Head}
use Rattle.zone_tzif_block.specs.Parts.{key_at, type_offset, kinds_at, types_at, tail_at, block_ok}
use Rattle.zone_tzif.specs.declared.Layout.{Layout}

-- ---- the file

-- the layout of the block that starts at b and has the header h
unfoldable pub layout_at : List ℕ → ℕ → Head → Layout
layout_at f b h = record {
  count = h.times;
  times = b;
  initial = type_offset (be32 f (types_at b h.times));
  line = tail_at b h + 1;
  len = length f - (tail_at b h + 2);
}

-- the file is usable, but for its footer's text
unfoldable pub usable : List ℕ → Bool
usable f =
    let s = second_at f in
    head_ok f 0 && (head_ok f s && (eqb (get_or f 4 0) (head_at f s).version && block_ok f (s + header_size) (head_at f s)))

-- the layout of a usable file
unfoldable pub layout_of : List ℕ → Layout
layout_of f = layout_at f (second_at f + header_size) (head_at f (second_at f))

-- what the code answers
unfoldable pub read_of : List ℕ → Option Layout
read_of f = if usable f then Some (layout_of f) else None

-- ---- what a layout says

-- transition i's time as a second, 0 for an earlier one
unfoldable pub time_at : List ℕ → Layout → ℕ → ℕ
time_at f l i = key_at f l.times i - (2 ^ 63 - epoch)

-- the offset of type i
unfoldable pub type_at : List ℕ → Layout → ℕ → ℕ
type_at f l i = type_offset (be32 f (types_at l.times l.count + type_size * i))

-- how far before the block the header has the number of types
abbrev pub types_before : ℕ
types_before = 8

-- how many types the header tells
abbrev pub type_count : List ℕ → Layout → ℕ
type_count f l = be32 f (l.times - types_before)

-- the offset after k transitions
unfoldable pub offset_after : List ℕ → Layout → ℕ → ℕ
offset_after f l zero = l.initial
offset_after f l (suc i) = type_offset (be32 f (types_at l.times l.count + type_size * get_or f (kinds_at l.times l.count + i) 0))

-- n changes from the one of index i on, whose times and offsets are given
unfoldable pub changes_from : (ℕ → ℕ) → (ℕ → ℕ) → ℕ → ℕ → List Change
changes_from time offset i zero = []
changes_from time offset i (suc n) = record { time = time i; offset = offset (suc i) } ∷ changes_from time offset (suc i) n

-- the table's changes
abbrev pub changes_at : List ℕ → Layout → List Change
changes_at f l = changes_from (time_at f l) (offset_after f l) 0 l.count

-- the footer's bytes
abbrev pub line_at : List ℕ → Layout → List ℕ
line_at f l = take l.len (drop l.line f)

-- the table of a layout
abbrev pub table_at : List ℕ → Layout → Table
table_at f l = record { initial = l.initial; changes = changes_at f l; line = line_at f l }
