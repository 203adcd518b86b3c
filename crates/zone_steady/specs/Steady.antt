-- How far a test passes, and spans that are widened at one end.
use Rattle.std.specs.Prelude.{◌≡◌, Bool, true, false, List, ℕ, zero, suc, ◌+◌, ◌-◌, ◌≤◌, ◌<◌}
use Rattle.model.specs.Tzif as model
use Rattle.model.specs.Zone.{steady}
use Rattle.laws_zone.specs.Sound.{dawn}
use Rattle.instant.specs.Instant.{years_end}
use Rattle.zone.specs.Zones.{ZoneOk}
use Rattle.zone.specs.declared.Zone.{Zone}
use Rattle.zone_steady.specs.declared.OffsetSince.{OffsetSince}
use Rattle.zone_tzif.specs.declared.Layout.{Layout}
use Rattle.zone_tzif.specs.Places.{time_at}

-- the test passes at each number below the room, and the room is 0 only where the test fails at 0
pub record SteadyRoom (test : ℕ → Bool) (room : ℕ) : Type 0 where
  pub none : room ≡ 0 → test 0 ≡ false
  pub each : (e : ℕ) → e < room → test e ≡ true

-- a run back: one offset from s up to u
pub record Back (offset : ℕ → ℕ) (u s : ℕ) : Type 0 where
  pub to : s ≤ u
  pub same : (v : ℕ) → s ≤ v → v ≤ u → offset v ≡ offset u

-- r has the offset at u, and a second from which it stays
abbrev pub IsOffsetSince : (ℕ → ℕ) → ℕ → OffsetSince → Type 0
IsOffsetSince offset u r = (r.offset ≡ offset u) × Back offset u r.since

-- the same, and that second is not before `from`
abbrev pub IsOffsetFrom : (ℕ → ℕ) → ℕ → ℕ → OffsetSince → Type 0
IsOffsetFrom offset u from r = (r.offset ≡ offset u) × Back offset u r.since × (from ≤ r.since)

-- an open zone is asked for a span of the calendar's years
abbrev pub AskedSpan : List ℕ → Zone → ℕ → ℕ → Type 0
AskedSpan f z lo hi = ZoneOk f z × (dawn ≤ lo) × (lo ≤ hi) × (hi < years_end)

-- where the k-th part of a table begins: at the transition before it
unfoldable pub since_at : List ℕ → Layout → ℕ → ℕ
since_at f l zero = 0
since_at f l (suc k) = time_at f l k

-- a span from a to b that is widened by e: before a if the way goes back, else behind b
abbrev pub low : Bool → ℕ → ℕ → ℕ
low true a e = a - e
low false a e = a

abbrev pub high : Bool → ℕ → ℕ → ℕ
high true b e = b
high false b e = b + e

-- how far one offset is kept beyond the span from lo to hi
abbrev pub RoomBeyond : model.Zone → Bool → ℕ → ℕ → ℕ → Type 0
RoomBeyond z back lo hi r = SteadyRoom (λ e. steady z (low back lo e) (high back hi e)) r
