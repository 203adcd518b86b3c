-- Document 01, "The label table": one theorem for its twelve cases, the two query lines and the ten refusals, by computing on the bytes.
use Rattle.std.specs.Prelude.{◌≡◌, refl, Bool, true, false, List, [], ◌∷◌, ◌++◌, map, ℕ, ◌+◌, ◌*◌, ◌-◌, replicate, ℤ, pos, neg_ℤ}
use Rattle.std.proofs.Math.Option.{Option, none, some}
use Rattle.model.specs.Basic.{run, joined, ◌>>=◌}
use Rattle.model.specs.Bytes.{hex, text}
use Rattle.model.specs.Instant.{epoch, second}
use Rattle.model.specs.Tzif.{Zone, zone_of}
use Rattle.model.specs.Zone.{resolve}
use Rattle.model.specs.Answer.{Answer, gives, refuses}
use Rattle.model.specs.Working.{Schedule}
use Rattle.model.specs.Build.{build}
use Rattle.model.specs.Calls.{Reply, between, add, sub, next_period, previous_period, list}
use Rattle.model.specs.Lines.{program, least_only}
use Rattle.model.specs.All.{everything}

-- ---- books and packs

-- 09:00 to 17:00, Monday to Friday, UTC
abbrev pub office : List ℕ
office = hex 31 0x00000001_0000000C_00000013_01_00_1F_00007E90_00000000_0000EF10_00000000

abbrev with_holiday : List ℕ
with_holiday = hex 47 0x00000002_00000014_00000013_00000027_00000008_01_00_1F_00007E90_00000000_0000EF10_00000000_03_00_0001_07EA_01_0C

abbrev night : List ℕ
night = hex 31 0x00000001_0000000C_00000013_01_00_1F_00013560_00000000_00005460_00000000

abbrev always : List ℕ
always = hex 31 0x00000001_0000000C_00000013_01_00_7F_00000000_00000000_00000000_00000000

-- n work records
abbrev works : ℕ → List ℕ
works n =
    hex 4 n ++ joined (map (λ i. hex 4 (4 + 8 * n + 19 * i) ++ hex 4 19) (run 0 n))
    ++ joined (replicate n (hex 19 0x01_00_1F_00007E90_00000000_0000EF10_00000000))

abbrev pub no_zones : List ℕ
no_zones = hex 4 0

-- a zone file with a footer alone: of the given version, one type of offset 0
abbrev type_alone : List ℕ → List ℕ
type_alone version = text "TZif" ++ version ++ hex 15 0 ++ hex 24 0x00000000_00000000_00000000_00000000_00000001_00000004 ++ hex 6 0 ++ text "UTC\0"

abbrev pub ruled_by : List ℕ → List ℕ → List ℕ
ruled_by version footer = type_alone version ++ type_alone version ++ text "\n" ++ footer ++ text "\n"

-- the second of a time of day on a day of the year 2026
abbrev local_time : Zone → ℕ → ℕ → Option ℕ
local_time z d s = some (resolve z (4518050 + 20454 + (d - 1)) (s * second))

abbrev cet : ℕ → ℕ → Option ℕ
cet d s = zone_of (ruled_by (text "2") (text "CET-1CEST,M3.5.0,M10.5.0/3")) >>= λ z. local_time z d s

-- ---- instants and answers

-- an hour of a day of the year 2026, in UTC
abbrev pub hour : ℕ → ℕ → ℤ
hour d h = pos (1767225600 + (d - 1) * 86400 + h * 3600)

abbrev pub is : List ℤ → ℕ → Answer Reply
is l windows = gives (record { values = l; windows = some (windows, windows) })

abbrev spans : ℤ → ℤ → Answer Reply
spans a b = gives (record { values = a ∷ pos 0 ∷ b ∷ pos 0 ∷ []; windows = none })

abbrev pub is_built : Answer Schedule → Bool
is_built (gives s) = true
is_built (refuses n p) = false

pub record LabelTable : Type 0 where
  pub case1 : between office no_zones (hour 9 16) (pos 0) (hour 12 10) (pos 0) ≡ is (pos 7200 ∷ pos 0 ∷ []) 1
  pub case1-turned : between office no_zones (hour 12 10) (pos 0) (hour 9 16) (pos 0) ≡ is (neg_ℤ (pos 7200) ∷ pos 0 ∷ []) 1
  pub case2 : add office no_zones (hour 9 16) (pos 0) (pos 7200) (pos 0) ≡ is (hour 12 10 ∷ pos 0 ∷ []) 1
  pub case3 : add office no_zones (hour 9 16) (pos 0) (pos 3600) (pos 0) ≡ is (hour 9 17 ∷ pos 0 ∷ []) 1
  pub case4 : add office no_zones (hour 10 10) (pos 0) (pos 0) (pos 0) ≡ is (hour 10 10 ∷ pos 0 ∷ []) 0
  pub case5 : sub office no_zones (hour 6 9) (pos 0) (pos 3600) (pos 0) ≡ is (hour 5 16 ∷ pos 0 ∷ []) 1
  pub case6 : next_period office no_zones (hour 10 10) (pos 0) ≡ spans (hour 12 9) (hour 12 17)
  pub case7 : previous_period office no_zones (hour 10 10) (pos 0) ≡ spans (hour 9 9) (hour 9 17)
  pub case8 : add with_holiday no_zones (hour 9 16) (pos 0) (pos 7200) (pos 0) ≡ is (hour 13 10 ∷ pos 0 ∷ []) 1
  pub case9 : add night no_zones (hour 5 22) (pos 0) (pos 14400) (pos 0) ≡ is (hour 6 2 ∷ pos 0 ∷ []) 1
  pub case10 : next_period always no_zones (hour 1 0) (pos 0) ≡ spans (hour 1 0) (hour 367 0)
  -- 29 March is day 88, 25 October day 298 of 2026
  pub case11 : cet 88 9000 ≡ some ((epoch + 1774747800) * second)
  pub case12 : cet 298 9000 ≡ some ((epoch + 1792888200) * second)
  pub lines :
      program least_only (some office) (some no_zones) (text "between 1767974400 0 1768212000 0\nadd 253402207200 999999999 0 1\n") ≡ text "ok 7200 0 1\nno 7 0\n"
  pub refusal1 : build (hex 3 0) no_zones ≡ refuses 1 0
  pub refusal2 : build (works 17) no_zones ≡ refuses 2 0
  pub refusal2-not : is_built (build (works 16) no_zones) ≡ true
  pub refusal3 : build office [] ≡ refuses 3 0
  pub refusal4 : build (hex 12 0x00000001_0000000C_00000005 ++ hex 2 0x0003 ++ text "UTC") no_zones ≡ refuses 4 12
  pub refusal5 :
      build (hex 12 0x00000001_0000000C_00000003 ++ hex 2 0x0001 ++ text "A") (hex 12 0x00000001_0000000C_00000006 ++ hex 1 0x01 ++ text "ATZif") ≡ refuses 5 12
  pub refusal6 : build (hex 4 0) no_zones ≡ refuses 6 0
  pub refusal7 : add office no_zones (pos 253402207200) (pos 999999999) (pos 0) (pos 1) ≡ refuses 7 0
  pub refusal8 : add office no_zones (pos 253402207201) (pos 0) (pos 0) (pos 1) ≡ refuses 8 0
  pub refusal9 : add office no_zones (hour 9 16) (pos 0) (pos 1) (neg_ℤ (pos 1)) ≡ refuses 9 0
  pub refusal10 : list office no_zones (hour 9 0) (pos 0) (hour 10 0) (pos 0) (pos 0 ∷ pos 0 ∷ pos 0 ∷ []) ≡ refuses 10 0
  pub refusal10-not :
      list office no_zones (hour 9 0) (pos 0) (hour 10 0) (pos 0) (pos 0 ∷ pos 0 ∷ pos 0 ∷ pos 0 ∷ pos 5 ∷ [])
      ≡ gives (record { count = 1; numbers = hour 9 9 ∷ pos 0 ∷ hour 9 17 ∷ pos 0 ∷ pos 5 ∷ [] })

pub label-table : LabelTable
unfolding everything
label-table = record {
  case1 = refl;
  case1-turned = refl;
  case2 = refl;
  case3 = refl;
  case4 = refl;
  case5 = refl;
  case6 = refl;
  case7 = refl;
  case8 = refl;
  case9 = refl;
  case10 = refl;
  case11 = refl;
  case12 = refl;
  lines = refl;
  refusal1 = refl;
  refusal2 = refl;
  refusal2-not = refl;
  refusal3 = refl;
  refusal4 = refl;
  refusal5 = refl;
  refusal6 = refl;
  refusal7 = refl;
  refusal8 = refl;
  refusal9 = refl;
  refusal10 = refl;
  refusal10-not = refl;
}
