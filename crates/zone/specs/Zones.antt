-- What the code's zone means: with the bytes of its file it is a zone of the definitions.
use Rattle.std.specs.Prelude.{◌≡◌, Bool, true, false, ◌&&◌, List, ℕ, ◌+◌, ◌-◌, ◌≤◌, ◌<◌, min, leb, ltb, Option, None, Some, IfSome}
use Rattle.std.proofs.lemmas.Option.{MatchOption-at_some}
use Rattle.std.proofs.Math.Option.{none, some}
use Rattle.std.proofs.Math.Option as math
use Rattle.model.specs.Tzif as model
use Rattle.model.specs.Zone.{offset_at}
use Rattle.laws_zone.specs.Zones.{ZoneFits}
use Rattle.zone_tzif.specs.Opened.{Opened, zone_at, count_at}
use Rattle.zone_tzif.specs.declared.Layout.{Layout}
use Rattle.zone_tzif.specs.declared.OffsetBounds.{OffsetBounds}
use Rattle.zone_footer.specs.Parsed.{the_footer}
use Rattle.zone_changes.specs.Meaning.{IsOffset}
use Rattle.zone_changes.specs.declared.OffsetUntil.{OffsetUntil}
use Rattle.zone.specs.declared.Zone.{Zone}
use Rattle.instant.specs.Instant.{years_end}
use Rattle.laws_zone.specs.Sound.{first_local}
use Rattle.laws_zone.specs.Runs.{Past}
use Rattle.laws_zone.specs.Resolve.{Reads}
use Rattle.model.specs.Offset.{greatest_offset}

-- the zone of the definitions
abbrev pub zone_is : List ℕ → Zone → model.Zone
zone_is f z = zone_at f z.table (the_footer z.footer)

-- what an open zone has: its table lies in the file, and its offsets and its footer's changes are in bounds
pub record ZoneOk (f : List ℕ) (z : Zone) : Type 0 where
  pub table : Opened f z.table
  pub fits : ZoneFits (zone_is f z)

-- an open zone is asked for a second of the calendar's years
abbrev pub Asked : List ℕ → Zone → ℕ → Type 0
Asked f z u = ZoneOk f z × (u < years_end)

-- its offset at a second
abbrev pub zone_offset : List ℕ → Zone → ℕ → ℕ
zone_offset f z = offset_at (zone_is f z)

-- what `open` answers
abbrev pub zone_read : List ℕ → Option Zone → math.Option model.Zone
zone_read f (Some z) = some (zone_is f z)
zone_read f None = none

-- a zone that it opened is one to look up in
pub zone-inside : {f : List ℕ} {r : Option Zone} {z : Zone} → IfSome r (ZoneOk f) → r ≡ Some z → ZoneOk f z
zone-inside {f} {r} {z} k e = MatchOption-at_some _ _ _ e k

-- a run from u up to e with the offset o holds a second that reads x
unfoldable pub in_run : ℕ → ℕ → ℕ → ℕ → Bool
in_run u o e x = leb (u + o) x && ltb (x - o) e

-- how many transitions are at or before the end of the run that k of them begin
abbrev pub next_count : Layout → ℕ → ℕ
next_count l k = min (k + 1) l.count

-- the offset at u, up to a second; k transitions are at or before u, and one more at or before that second
abbrev pub RunAfter : List ℕ → Zone → ℕ → ℕ → OffsetUntil → Type 0
RunAfter f z k u r = IsOffset (zone_offset f z) u r × (next_count z.table k ≡ count_at f z.table r.until)

-- no offset is below the one bound or above the other, and no bound above what a zone may have
pub record ZoneBounds (offset : ℕ → ℕ) (b : OffsetBounds) : Type 0 where
  pub least : (u : ℕ) → b.least ≤ offset u
  pub greatest : (u : ℕ) → offset u ≤ b.greatest
  pub most : b.greatest ≤ greatest_offset

-- an open zone is searched for a local second, with bounds of its offsets
pub record Searched (f : List ℕ) (z : Zone) (x : ℕ) (b : OffsetBounds) : Type 0 where
  pub ok : ZoneOk f z
  pub from : first_local ≤ x
  pub to : x < years_end
  pub bounds : ZoneBounds (zone_offset f z) b

-- the same from a second on that lies past the first jump over x; n transitions are at or before it
abbrev pub SearchedFrom : List ℕ → Zone → ℕ → OffsetBounds → ℕ → ℕ → ℕ → Type 0
SearchedFrom f z x b from n d = Searched f z x b × Past (zone_offset f z) x from d × (n ≡ count_at f z.table from)

-- whether a second from `from` on reads x
pub record ReadsFrom (offset : ℕ → ℕ) (x from : ℕ) (answer : Bool) : Type 0 where
  pub some : answer ≡ true → (v : ℕ) × (from ≤ v) × Reads offset x v
  pub none : answer ≡ false → (v : ℕ) → from ≤ v → Reads offset x v → ⊥
