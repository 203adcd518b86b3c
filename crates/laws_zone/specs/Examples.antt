-- Worked examples of zone files, footers and local times, most of them after examples in the two standards that document 01 names: RFC 8536 (TZif)
-- and RFC 5545. They were not compared with the RFCs' texts; where one was compared with a file of the tz database, it says so. They are closed by
-- computing on the bytes.
use Rattle.std.specs.Prelude.{◌≡◌, refl, List, [], ◌∷◌, ◌++◌, ℕ, ◌+◌, ◌*◌, ◌-◌, ◌≤◌}
use Rattle.std.proofs.Math.Option.{Option, none, some}
use Prim.Native.Char.{code}
use Rattle.std.proofs.Common.{arith}
use Rattle.model.specs.Basic.{◌>>=◌}
use Rattle.model.specs.Bytes.{hex, text}
use Rattle.model.specs.Calendar.{is_leap, day_number}
use Rattle.model.specs.Footer.{Footer, ChangeRule, julian, plain, empty, fixed, rules, time_bias, footer_of, day_in, change_in}
use Rattle.model.specs.Tzif.{Zone, Change, zone_of}
use Rattle.model.specs.Offset.{offset_bias}
use Rattle.model.specs.Zone.{latest, offset_from, offset_at, second_of}
use Rattle.model.specs.All.{everything}
use Rattle.model.specs.Label.{ruled_by}
use Rattle.laws_base.specs.Test.{by-test, by-either}
use Rattle.laws_calendar.specs.Dates.{year-step}
use Rattle.laws_zone.specs.FooterChanges.{latest-is, latest-le, latest-of-all, daylight}
use Rattle.model.specs.Instant.{day_seconds}

-- ---- times

-- the second of a date, from the year 0 on, and a time of day
abbrev at : ℕ → ℕ → ℕ → ℕ → ℕ → ℕ → ℕ
at y m d hours minutes seconds = day_number (10400 + y) m d * day_seconds + hours * 3600 + minutes * 60 + seconds

-- the offsets of so many minutes east and west of Greenwich
abbrev east : ℕ → ℕ
east minutes = offset_bias + minutes * 60

abbrev west : ℕ → ℕ
west minutes = offset_bias - minutes * 60

-- of a file's zone: the offset at a second, and the second of a local time
abbrev offset : List ℕ → ℕ → Option ℕ
offset f u = zone_of f >>= λ z. some (offset_at z u)

abbrev read : List ℕ → ℕ → Option ℕ
read f l = zone_of f >>= λ z. some (second_of z (l + offset_bias))

-- ---- Pacific/Honolulu in version 2, after RFC 8536, appendix B. All 329 bytes are those of the zone's file in Debian's package of the tz database, 2025b

abbrev honolulu_header : List ℕ
honolulu_header = text "TZif2" ++ hex 15 0 ++ hex 24 0x00000006_00000006_00000000_00000007_00000006_00000014

-- type numbers, types, abbreviations and indicators
abbrev honolulu_types : List ℕ
honolulu_types =
    hex 7 0x01_02_01_03_04_01_05
    ++ hex 36 0xFFFF6C020000_FFFF6C580004_FFFF7A680108_FFFF7A68010C_FFFF7A680110_FFFF73600004
    ++ text "LMT\0HST\0HDT\0HWT\0HPT\0"
    ++ hex 12 0x00000000_01_00_00000000_01_00

abbrev honolulu : List ℕ
honolulu =
    honolulu_header ++ hex 28 0x80000000_BB054348_BB217158_CB893DC8_D223F470_D2614938_D58D7348 ++ honolulu_types
    ++ honolulu_header
    ++ hex 24 0xFFFFFFFF74E070BE_FFFFFFFFBB054348_FFFFFFFFBB217158
    ++ hex 32 0xFFFFFFFFCB893DC8_FFFFFFFFD223F470_FFFFFFFFD2614938_FFFFFFFFD58D7348
    ++ honolulu_types
    ++ text "\nHST10\n"

abbrev change : ℕ → ℕ → Change
change t o = record { time = t; offset = o }

pub record Honolulu : Type 0 where
  pub zone :
      zone_of honolulu
      ≡ some (record {
        initial = offset_bias - 37886;
        changes =
            change (at 1896 1 13 22 31 26) (west 630) ∷ change (at 1933 4 30 12 30 0) (west 570) ∷ change (at 1933 5 21 21 30 0) (west 630)
            ∷ change (at 1942 2 9 12 30 0) (west 570)
            ∷ change (at 1945 8 14 23 0 0) (west 570)
            ∷ change (at 1945 9 30 11 30 0) (west 630)
            ∷ change (at 1947 6 8 12 30 0) (west 600)
            ∷ [];
        footer = fixed (west 600);
      })
  -- the clock went from 02:00 to 02:30 on 8 June 1947: 02:15 is 02:45 by the new clock
  pub gap : read honolulu (at 1947 6 8 2 15 0) ≡ some (at 1947 6 8 12 45 0)
  -- it went from 02:00 back to 01:00 on 30 September 1945: 01:30 is the first one
  pub repeat : read honolulu (at 1945 9 30 1 30 0) ≡ some (at 1945 9 30 11 0 0)

pub honolulu-file : Honolulu
unfolding everything
honolulu-file = record { zone = refl; gap = refl; repeat = refl }

-- ---- a file with an empty first block and one transition in 2038, after the truncated file for Asia/Jerusalem in RFC 8536, appendix B, which has
-- version 3. Its footer is that of the zone's file in Debian's package of the tz database, 2025b

abbrev jerusalem : List ℕ → List ℕ
jerusalem version =
    text "TZif" ++ version ++ hex 39 0 ++ text "TZif" ++ version ++ hex 15 0 ++ hex 24 0x00000001_00000001_00000000_00000001_00000001_00000004
    ++ hex 15 0x000000007FE81780_00_00001C20_00_00
    ++ text "IST\0"
    ++ hex 2 0x01_01
    ++ text "\nIST-2IDT,M3.4.4/26,M10.5.0\n"

pub record Jerusalem : Type 0 where
  -- daylight time starts at 02:00 on the day after the fourth Thursday of March, which is the 22nd in 2040
  pub winter : offset (jerusalem (text "3")) (at 2040 3 22 23 59 59) ≡ some (east 120)
  pub summer : offset (jerusalem (text "3")) (at 2040 3 23 0 0 0) ≡ some (east 180)
  -- "version '2' .. stay[s] at 0 to 24"
  pub version-2 : zone_of (jerusalem (text "2")) ≡ none

pub jerusalem-file : Jerusalem
unfolding everything
jerusalem-file = record { winter = refl; summer = refl; version-2 = refl }

-- ---- after RFC 5545, section 3.3.5: a local time that does not occur, and one that occurs twice

abbrev new_york : List ℕ
new_york = ruled_by (text "2") (text "EST5EDT,M3.2.0,M11.1.0")

pub record NewYork : Type 0 where
  -- "TZID=America/New_York:20070311T023000 indicates March 11, 2007 at 3:30 A.M. EDT (UTC-04:00)"
  pub gap : read new_york (at 2007 3 11 2 30 0) ≡ some (at 2007 3 11 7 30 0)
  pub gap-offset : offset new_york (at 2007 3 11 7 30 0) ≡ some (west 240)
  -- "TZID=America/New_York:20071104T013000 indicates November 4, 2007 at 1:30 A.M. EDT (UTC-04:00)"
  pub repeat : read new_york (at 2007 11 4 1 30 0) ≡ some (at 2007 11 4 5 30 0)
  pub repeat-offset : offset new_york (at 2007 11 4 5 30 0) ≡ some (west 240)

pub new-york : NewYork
unfolding everything
new-york = record { gap = refl; gap-offset = refl; repeat = refl; repeat-offset = refl }

-- ---- daylight time behind standard time, in winter: Europe/Dublin. The change back to standard time goes by the daylight clock

abbrev dublin : List ℕ
dublin = ruled_by (text "3") (text "IST-1GMT0,M10.5.0,M3.5.0/1")

pub record Dublin : Type 0 where
  pub summer-ends : offset dublin (at 2026 10 25 0 59 59) ≡ some (east 60)
  pub winter : offset dublin (at 2026 10 25 1 0 0) ≡ some (east 0)
  pub winter-ends : offset dublin (at 2027 3 28 0 59 59) ≡ some (east 0)
  pub summer : offset dublin (at 2027 3 28 1 0 0) ≡ some (east 60)

pub dublin-footer : Dublin
unfolding everything
dublin-footer = record { summer-ends = refl; winter = refl; winter-ends = refl; summer = refl }

-- ---- daylight time all year: it ends where it starts again. The tie at each new year is daylight time's, so that no second has standard time

abbrev all_year : List ℕ
all_year = ruled_by (text "2") (text "AAA3EDT4,0/0,J365/23")

abbrev start : ChangeRule
start = record { day = plain 0; time = time_bias }

abbrev end : ChangeRule
end = record { day = julian 365; time = time_bias + 82800 }

abbrev all_year_zone : Zone
all_year_zone = record { initial = east 0; changes = []; footer = rules (west 180) (west 240) start end }

pub all-year-file : zone_of all_year ≡ some all_year_zone
unfolding everything
all-year-file = refl

ends-as-starts : (y : ℕ) → change_in (west 240) end y ≡ change_in (west 180) start (y + 1)
unfolding change_in day_in
ends-as-starts y =
    by-test (is_leap y) (λ e. rw e (omega (arith, rw e at (year-step y)))) (λ e. rw e (omega (arith, rw e at (year-step y))))

never-ended : (u : ℕ) → latest (change_in (west 240) end) u ≤ latest (change_in (west 180) start) u
never-ended u =
    by-either (λ (p : latest (change_in (west 240) end) u ≡ 0). omega arith)
    (λ (p : (y : ℕ) × (change_in (west 240) end y ≡ latest (change_in (west 240) end) u)).
    let q = ends-as-starts p.0 in
    let k : change_in (west 180) start (p.0 + 1) ≤ u = omega (arith, p.1, latest-le (change_in (west 240) end) u) in
    omega (arith, p.1, latest-of-all (west 180) start (omega arith) (record { day-fits = omega arith; time-fits = omega arith }) u (p.0 + 1) k))
    (latest-is (change_in (west 240) end) u)

pub all-year : (u : ℕ) → offset_at all_year_zone u ≡ west 240
unfolding offset_at offset_from
all-year u = daylight (west 180) (west 240) start end (east 0) u (never-ended u)

-- ---- a rule time before midnight: America/Nuuk, by the footer of its file in Debian's package of the tz database, 2025b. Daylight time starts on the
-- eve of the last Sunday of March, at 23:00 by a clock two hours behind Greenwich

abbrev nuuk : List ℕ → List ℕ
nuuk version = ruled_by version (text "<-02>2<-01>,M3.5.0/-1,M10.5.0/0")

pub record Nuuk : Type 0 where
  pub winter : offset (nuuk (text "3")) (at 2026 3 29 0 59 59) ≡ some (west 120)
  pub summer : offset (nuuk (text "3")) (at 2026 3 29 1 0 0) ≡ some (west 60)
  pub summer-ends : offset (nuuk (text "3")) (at 2026 10 25 0 59 59) ≡ some (west 60)
  pub winter-again : offset (nuuk (text "3")) (at 2026 10 25 1 0 0) ≡ some (west 120)
  -- on 28 March the clock goes from 23:00 to midnight
  pub gap : read (nuuk (text "3")) (at 2026 3 28 23 30 0) ≡ some (at 2026 3 29 1 30 0)
  pub version-2 : zone_of (nuuk (text "2")) ≡ none

pub nuuk-footer : Nuuk
unfolding everything
nuuk-footer = record { winter = refl; summer = refl; summer-ends = refl; winter-again = refl; gap = refl; version-2 = refl }

-- ---- rule times: the second of 1 January, with a week added, at which daylight time starts by the footer AAA0BBB,0/time,1

abbrev start_time : Footer → Option ℕ
start_time empty = none
start_time (fixed o) = none
start_time (rules std dst start end) = some start.time

abbrev time_of : ℕ → List ℕ → Option ℕ
time_of version time = footer_of version (text "AAA0BBB,0/" ++ time ++ text ",1") >>= start_time

abbrev in-2 : List ℕ → Option ℕ
in-2 = time_of (code "2")

abbrev in-3 : List ℕ → Option ℕ
in-3 = time_of (code "3")

pub record RuleTimes : Type 0 where
  pub latest-3 : in-3 (text "167:59:59") ≡ some (time_bias + 604799)
  pub earliest-3 : in-3 (text "-167:59:59") ≡ some (time_bias - 604799)
  pub too-late-3 : in-3 (text "168") ≡ none
  pub too-early-3 : in-3 (text "-168") ≡ none
  -- the sign covers the whole time
  pub half-hour : in-3 (text "-0:30") ≡ some (time_bias - 1800)
  pub plus : in-3 (text "+1") ≡ some (time_bias + 3600)
  pub three-digits : in-3 (text "002") ≡ some (time_bias + 7200)
  pub four-digits : in-3 (text "0002") ≡ none
  pub sign-alone : in-3 (text "-") ≡ none
  pub two-signs : in-3 (text "--1") ≡ none
  pub latest-2 : in-2 (text "24:59:59") ≡ some (time_bias + 89999)
  pub too-late-2 : in-2 (text "25") ≡ none
  pub minus-2 : in-2 (text "-1") ≡ none
  pub plus-2 : in-2 (text "+1") ≡ none
  pub three-digits-2 : in-2 (text "002") ≡ none
  -- offsets stay as they are
  pub offset-hours : footer_of (code "3") (text "AAA25") ≡ none
  pub offset-digits : footer_of (code "3") (text "AAA024") ≡ none

pub rule-times : RuleTimes
unfolding everything
rule-times = record {
  latest-3 = refl;
  earliest-3 = refl;
  too-late-3 = refl;
  too-early-3 = refl;
  half-hour = refl;
  plus = refl;
  three-digits = refl;
  four-digits = refl;
  sign-alone = refl;
  two-signs = refl;
  latest-2 = refl;
  too-late-2 = refl;
  minus-2 = refl;
  plus-2 = refl;
  three-digits-2 = refl;
  offset-hours = refl;
  offset-digits = refl;
}

-- ---- changes that leave their year: `latest` needs the first and the last of the years that it looks at

-- day 365 and 167:59:59: the change of 2025 comes on 7 January 2026, that of 2024 on 6 January 2025
abbrev late : ChangeRule
late = record { day = plain 365; time = time_bias + 604799 }

-- day 0 and -167:59:59: the change of 2027 comes on 25 December 2026
abbrev early : ChangeRule
early = record { day = plain 0; time = time_bias - 604799 }

pub record YearsNeeded : Type 0 where
  pub two-before : latest (change_in (east 0) late) (at 2026 1 7 23 59 58) ≡ at 2025 1 6 23 59 59
  pub one-before : latest (change_in (east 0) late) (at 2026 1 7 23 59 59) ≡ at 2026 1 7 23 59 59
  pub of-the-year : latest (change_in (east 0) early) (at 2026 12 25 0 0 0) ≡ at 2025 12 25 0 0 1
  pub one-after : latest (change_in (east 0) early) (at 2026 12 25 0 0 1) ≡ at 2026 12 25 0 0 1

pub years-needed : YearsNeeded
unfolding everything
years-needed = record { two-before = refl; one-before = refl; of-the-year = refl; one-after = refl }
