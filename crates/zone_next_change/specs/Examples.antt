-- Examples of the next change, closed by computing.
use Rattle.std.specs.Prelude.{◌≡◌, refl, List, [], ◌∷◌, ◌++◌, ℕ, ◌+◌, ◌*◌, ◌-◌}
use Rattle.std.proofs.Math.Option.{none, some}
use Rattle.std.proofs.Common.{arith}
use Rattle.model.specs.Bytes.{hex, text}
use Rattle.model.specs.Calendar.{day_number}
use Rattle.model.specs.Instant.{epoch, day_seconds}
use Rattle.model.specs.Footer.{month, empty, rules, time_bias}
use Rattle.model.specs.Tzif.{Zone, Change, zone_of}
use Rattle.model.specs.Offset.{offset_bias}
use Rattle.model.specs.All.{everything}
use Rattle.laws_zone.specs.Grammar.{FooterFits}
use Rattle.model.specs.NextChange.{first_of, next_change}
use Rattle.zone_next_change.specs.NextLaws.{steady-next, steady-never}

-- a transition t seconds after 1970, to an offset of o seconds east of Greenwich
abbrev change : ℕ → ℕ → Change
change t o = record { time = epoch + t; offset = offset_bias + o }

-- ---- a file with two transitions: an hour east of Greenwich from 1,000,000 s after 1970 on, for ten seconds

abbrev two_file : List ℕ
two_file =
    text "TZif2" ++ hex 39 0 ++ text "TZif2" ++ hex 15 0 ++ hex 24 0x00000000_00000000_00000000_00000002_00000002_00000004
    ++ hex 16 0x00000000000F4240_00000000000F424A
    ++ hex 14 0x01_00_00000000_00_00_00000E10_01_00
    ++ text "UTC\0\n\n"

abbrev two : Zone
two = record { initial = offset_bias; changes = change 1000000 3600 ∷ change 1000010 0 ∷ []; footer = empty }

pub record Two : Type 0 where
  pub file : zone_of two_file ≡ some two
  pub first : next_change two (epoch + 999995) ≡ some (epoch + 1000000)
  -- a change at the second itself is not after it
  pub second : next_change two (epoch + 1000000) ≡ some (epoch + 1000010)
  pub last : next_change two (epoch + 1000010) ≡ none
  -- from 1970 on
  pub far : next_change two epoch ≡ some (epoch + 1000000)

pub two-changes : Two
unfolding everything first_of next_change
two-changes = record {
  file = refl;
  first = refl;
  second = refl;
  last = steady-never two tt (epoch + 1000010) refl;
  far = steady-next two tt epoch (epoch + 1000000) (omega arith) (omega arith) refl refl;
}

-- ---- a transition that does not change the offset, which is no change

abbrev renamed : Zone
renamed = record { initial = offset_bias; changes = change 1000000 3600 ∷ change 1000004 3600 ∷ change 1000010 0 ∷ []; footer = empty }

pub renamed-change : next_change renamed (epoch + 1000000) ≡ some (epoch + 1000010)
unfolding everything first_of next_change
renamed-change = refl

-- ---- a footer with daylight time: CET-1CEST,M3.5.0,M10.5.0/3

-- the second of an hour of a date from the year 0 on
abbrev at : ℕ → ℕ → ℕ → ℕ → ℕ
at y m d hours = day_number (10400 + y) m d * day_seconds + hours * 3600

abbrev berlin : Zone
berlin = record {
  initial = 97200;
  changes = [];
  footer = rules 97200 100800 (record { day = month 3 5 0; time = time_bias + 7200 }) (record { day = month 10 5 0; time = time_bias + 10800 });
}

berlin-fits : FooterFits berlin.footer
berlin-fits = (
  (omega arith, omega arith),
  (omega arith, omega arith),
  record { day-fits = (omega arith, omega arith, omega arith, omega arith, omega arith); time-fits = omega arith },
  record { day-fits = (omega arith, omega arith, omega arith, omega arith, omega arith); time-fits = omega arith },
)

pub record Berlin : Type 0 where
  pub near : next_change berlin (at 2026 3 29 1 - 2) ≡ some (at 2026 3 29 1)
  pub spring : next_change berlin (at 2026 1 1 0) ≡ some (at 2026 3 29 1)
  -- from the change itself on
  pub autumn : next_change berlin (at 2026 3 29 1) ≡ some (at 2026 10 25 1)

pub berlin-changes : Berlin
unfolding everything first_of next_change
berlin-changes = record {
  near = refl;
  spring = steady-next berlin berlin-fits (at 2026 1 1 0) (at 2026 3 29 1) (omega arith) (omega arith) refl refl;
  autumn = steady-next berlin berlin-fits (at 2026 3 29 1) (at 2026 10 25 1) (omega arith) (omega arith) refl refl;
}
