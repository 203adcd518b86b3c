-- Demand 3's premise is exact. A book whose zone has two offsets 86,400 s apart builds and has all of demand 3 (proofs/AtTheLimit.antt); the same
-- book with two offsets 86,401 s apart builds too, and there working time does not add up: half a second is lost.
use Rattle.std.specs.Prelude.{◌≡◌, refl, Bool, true, false, List, [], ◌∷◌, ◌++◌, ℕ, ◌+◌, ◌≤◌, length, ℤ, pos, ◌+ℤ◌, if◌then◌else◌}
use Rattle.std.proofs.Common.{sym, ◌∙◌, arith}
use Rattle.std.specs.Int.Signed.{le_z_yes}
use Rattle.model.specs.Bytes.{hex, text}
use Rattle.model.specs.Answer.{Answer, gives}
use Rattle.model.specs.Zone.{offset_at}
use Rattle.model.specs.Working.{Schedule}
use Rattle.model.specs.Build.{build}
use Rattle.model.specs.Calls.{between, said}
use Rattle.model.specs.All.{everything}
use Rattle.laws_demand3.specs.Pairs.{Pair, nanos_of, listed_pair}
use Rattle.laws_demand3.specs.Zones.{used_in, zones_of}
use Rattle.laws_base.specs.Every.{Every}
use Rattle.laws_demand3.specs.Demand3.{Given, WorkingTime, Demand3, as_defined}
use Rattle.model.specs.Instant.{day_seconds, epoch}
use Rattle.model.specs.Offset.{offset_bias}

-- a default zone "z", and work on Mondays from 23:59:59.5 for 24 hours
abbrev pub book : List ℕ
book = hex 42 0x00000002_00000014_00000003_00000017_00000013_00_01_7A_01_00_01_0001517F_1DCD6500_0001517F_1DCD6500

-- the zone "z": its offset is 0 before Tuesday 2026-01-13T00:00Z and n seconds from then on
abbrev pub pack : ℕ → List ℕ
pack n =
    hex 12 0x00000001_0000000C_0000007F ++ hex 1 1 ++ text "z"
    ++ text "TZif2" ++ hex 15 0 ++ hex 24 0x00000000_00000000_00000000_00000000_00000001_00000004 ++ hex 6 0 ++ text "UTC\0"
    ++ text "TZif2" ++ hex 15 0 ++ hex 24 0x00000000_00000000_00000000_00000001_00000002_00000004
    ++ hex 8 1768262400 ++ hex 1 1 ++ hex 6 0 ++ hex 4 n ++ hex 2 0 ++ text "UTC\0" ++ text "\n\n"

-- the change, in seconds from -10400
abbrev pub change : ℕ
change = epoch + 1768262400

-- the offset of the zone at the change is that at the start and n more; the book has no other zone
abbrev Apart : ℕ → Type 0
Apart n = (length (zones_of book (pack n)) ≡ 1) × Every (λ z. offset_at z change ≡ offset_at z 0 + n) (zones_of book (pack n))

-- ---- 86,400 s apart

near_apart : Apart day_seconds
unfolding everything used_in zones_of
near_apart = (refl, (refl, tt))

pub near-builds : (s : Schedule) × (build book (pack day_seconds) ≡ gives s)
unfolding everything
near-builds = (_, refl)

pub step : (a b : Bool) → (if a then 180000 else offset_bias) ≤ (if b then 180000 else offset_bias) + day_seconds
step true true = omega arith
step true false = omega arith
step false true = omega arith
step false false = omega arith

-- ---- 86,401 s apart

far_apart : Apart 86401
unfolding everything used_in zones_of
far_apart = (refl, (refl, tt))

pub far-builds : (s : Schedule) × (build book (pack 86401) ≡ gives s)
unfolding everything
far-builds = (_, refl)

abbrev second : ℕ → Pair
second s = record { sec = pos s; ns = pos 0 }

-- 2026-01-13T00:00:00Z, 23:59:59Z and 24:00:00Z
abbrev a : Pair
a = second 1768262400

abbrev b : Pair
b = second 1768348799

abbrev c : Pair
c = second 1768348800

abbrev worked : Pair → Pair → Answer (List ℤ)
worked p q = said (between book (pack 86401) p.sec p.ns q.sec q.ns)

whole : worked a c ≡ gives (pos 86399 ∷ pos 500000000 ∷ [])
unfolding everything
whole = refl

front : worked a b ≡ gives (pos 86399 ∷ pos 0 ∷ [])
unfolding everything
front = refl

-- half a second is lost
rest : worked b c ≡ gives (pos 0 ∷ pos 0 ∷ [])
unfolding everything
rest = refl

number : (p q d : Pair) (w : ℤ) → worked p q ≡ gives (listed_pair d) → WorkingTime (as_defined book (pack 86401)) p q w → w ≡ nanos_of d
number p q d w e h =
    let f : gives (listed_pair h.0) ≡ gives (listed_pair d) = sym h.1 ∙ e in
    let g : h.0.sec ≡ d.sec = cc in let k : h.0.ns ≡ d.ns = cc in
    sym h.2 ∙ rw (g, k)

pub fails-beyond-24-hours : Demand3 (as_defined book (pack 86401)) → ⊥
fails-beyond-24-hours h =
    let w = h.additive a b c given-a given-b given-c in
    let x : w.0 ≡ pos 86399000000000 = number a b (second 86399) w.0 front w.2 in
    let y : w.1 ≡ pos 0 = number b c (second 0) w.1 rest w.3 in
    let z : w.0 +ℤ w.1 ≡ pos 86399500000000 = number a c (record { sec = pos 86399; ns = pos 500000000 }) (w.0 +ℤ w.1) whole w.4 in
    let v : pos 86399000000000 ≡ pos 86399500000000 = rw (x, y) at z in
    let o : ◌≡◌ {A = ℕ} 86399000000000 86399500000000 = cc in
    omega arith
  where
    given-a : Given a
    given-a = record { instant = record { first = le_z_yes tt; last = le_z_yes tt; low = le_z_yes tt; high = le_z_yes tt }; since = le_z_yes tt }

    given-b : Given b
    given-b = record { instant = record { first = le_z_yes tt; last = le_z_yes tt; low = le_z_yes tt; high = le_z_yes tt }; since = le_z_yes tt }

    given-c : Given c
    given-c = record { instant = record { first = le_z_yes tt; last = le_z_yes tt; low = le_z_yes tt; high = le_z_yes tt }; since = le_z_yes tt }
