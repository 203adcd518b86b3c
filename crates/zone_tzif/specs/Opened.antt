-- A file together with a layout of it: what the lookups lean on, and the zone that they read. `read` gives such a layout of a usable file
-- (proofs/Laws.antt, `opened`); UTC has one without a file (`utc-opened`).
use Rattle.std.specs.Prelude.{◌≡◌, refl, true, List, ℕ, zero, suc, ◌+◌, ◌*◌, ◌≤◌, ◌<◌, length, get_or}
use Rattle.std.proofs.Common.{arith}
use Rattle.model.specs.Footer.{Footer, empty}
use Rattle.model.specs.Tzif.{Zone, zone_with, type_size, most_transitions, most_types}
use Rattle.model.specs.Offset.{offset_bias, greatest_offset}
use Rattle.model.specs.Zone.{utc}
use Rattle.big_endian.specs.Walk.{all_from, count_below, up_to}
use Rattle.zone_tzif.specs.declared.Layout.{Layout}
use Rattle.zone_tzif_block.specs.Parts.{kinds_at, types_at, times_rise}
use Rattle.zone_tzif.specs.Places.{time_at, type_at, types_before, type_count, offset_after, changes_from, table_at}
use Rattle.zone_tzif.specs.declared.OffsetBounds.{OffsetBounds}

-- what is known of a table's types: their number stands in the header before the block, and each has an offset that a zone may have
pub record HasTypes (f : List ℕ) (l : Layout) : Type 0 where
  pub behind-header : types_before ≤ l.times
  pub few-types : type_count f l ≤ most_types
  pub below : (i : ℕ) → i < l.count → get_or f (kinds_at l.times l.count + i) 0 < type_count f l
  pub types-fit : (i : ℕ) → i < type_count f l → type_at f l i ≤ greatest_offset

-- the layout l is one of the file f
pub record Opened (f : List ℕ) (l : Layout) : Type 0 where
  pub few : l.count ≤ most_transitions
  -- times and type numbers lie inside the file, and so does the type of each
  pub inside : types_at l.times l.count ≤ length f
  pub types-inside : (i : ℕ) → i < l.count → types_at l.times l.count + type_size * get_or f (kinds_at l.times l.count + i) 0 < length f
  pub rise : times_rise f l.times l.count ≡ true
  -- each offset is one that a zone may have
  pub fit : (k : ℕ) → k ≤ l.count → (1 ≤ offset_after f l k) × (offset_after f l k ≤ greatest_offset)
  -- a table that has transitions has types
  pub types : 1 ≤ l.count → HasTypes f l

-- no offset of the table is below the one bound or above the other, and no bound above what a zone may have
pub record TableBounds (f : List ℕ) (l : Layout) (b : OffsetBounds) : Type 0 where
  pub each : (k : ℕ) → k ≤ l.count → (b.least ≤ offset_after f l k) × (offset_after f l k ≤ b.greatest)
  pub most : b.greatest ≤ greatest_offset

-- the zone of a layout, given what the footer spells
abbrev pub zone_at : List ℕ → Layout → Footer → Zone
zone_at f l foot = zone_with (table_at f l) foot

-- how many transitions are at or before the second u
unfoldable pub count_at : List ℕ → Layout → ℕ → ℕ
count_at f l u = count_below (up_to (time_at f l) u) l.count

-- ---- UTC, without a file

-- its layout: no transition, and offset 0
abbrev pub utc_layout : Layout
utc_layout = record { count = 0; times = 0; initial = offset_bias; line = 0; len = 0 }

pub utc-opened : (f : List ℕ) → Opened f utc_layout
unfolding all_from offset_after
utc-opened f = record {
  few = omega arith;
  inside = omega arith;
  types-inside = λ i h. absurd (omega arith);
  rise = refl;
  fit = fits;
  types = λ h. absurd (omega arith);
}
  where
    fits : (k : ℕ) → k ≤ 0 → (1 ≤ offset_after f utc_layout k) × (offset_after f utc_layout k ≤ greatest_offset)
    fits zero h = (omega arith, omega arith)
    fits (suc k) h = absurd (omega arith)

pub utc-zone : (f : List ℕ) → zone_at f utc_layout empty ≡ utc
unfolding changes_from
utc-zone f = refl
