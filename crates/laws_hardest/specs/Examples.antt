-- Examples of the hardest stretch, by computing on the bytes. The book is document 01's office: Monday to Friday, 09:00 to 17:00 in UTC. Monday 2026-01-05.
use Rattle.std.specs.Prelude.{◌≡◌, refl, List, [], ◌∷◌, ℕ, ℤ, pos, neg_ℤ, replicate}
use Rattle.std.proofs.Math.Option.{none}
use Rattle.model.specs.Answer.{Answer, gives, refuses}
use Rattle.model.specs.Calls.{Reply}
use Rattle.model.specs.Hardest.{hardest}
use Rattle.model.specs.Label.{office, no_zones, hour}
use Rattle.model.specs.All.{everything}

-- from Monday 08:00
abbrev monday : List ℤ → ℤ → Answer Reply
monday log width = hardest office no_zones (hour 5 8) (pos 0) log width

-- so many seconds, from an instant on
abbrev stretch_is : ℕ → ℤ → Answer Reply
stretch_is time start = gives (record { values = pos time ∷ pos 0 ∷ start ∷ pos 0 ∷ []; windows = none })

-- two runs of 100 s at 09:00 and 10:00
abbrev two_runs : List ℤ
two_runs = pos 3600 ∷ pos 100 ∷ pos 7200 ∷ pos 100 ∷ []

pub record Mondays : Type 0 where
  -- the second run is in the window whole, in half, or not at all
  pub whole : monday two_runs (pos 3700) ≡ stretch_is 200 (hour 5 9)
  pub part : monday two_runs (pos 3650) ≡ stretch_is 150 (hour 5 9)
  pub apart : monday two_runs (pos 3600) ≡ stretch_is 100 (hour 5 9)
  -- a run outside working hours counts nothing: 50 s of the first run lie before 09:00
  pub before-nine : monday (pos 3550 ∷ pos 100 ∷ pos 7200 ∷ pos 100 ∷ []) (pos 100) ≡ stretch_is 100 (hour 5 10)
  -- no working time at all: the first run's start; an empty log: the given instant
  pub none-works : monday (pos 0 ∷ pos 100 ∷ pos 1800 ∷ pos 100 ∷ []) (pos 3600) ≡ stretch_is 0 (hour 5 8)
  pub empty : monday [] (pos 1) ≡ stretch_is 0 (hour 5 8)
  -- the limits of a width, and one beyond each; what comes first of 11 and 12
  pub widest : monday two_runs (pos 34560000) ≡ stretch_is 200 (hour 5 9)
  pub too_wide : monday two_runs (pos 34560001) ≡ refuses 12 0
  pub no-width : monday [] (pos 0) ≡ refuses 12 0
  pub log-first : monday (pos 1 ∷ []) (pos 0) ≡ refuses 11 0
  pub instant-first : hardest office no_zones (pos 0) (neg_ℤ (pos 1)) (pos 1 ∷ []) (pos 0) ≡ refuses 8 0
  -- runs that touch, and runs that overlap by a second; a length of none; an offset below 0
  pub touching : monday (pos 3600 ∷ pos 100 ∷ pos 3700 ∷ pos 100 ∷ []) (pos 200) ≡ stretch_is 200 (hour 5 9)
  pub overlap : monday (pos 3600 ∷ pos 100 ∷ pos 3699 ∷ pos 100 ∷ []) (pos 200) ≡ refuses 11 0
  pub no_length : monday (pos 3600 ∷ pos 0 ∷ []) (pos 200) ≡ refuses 11 0
  pub below-0 : monday (neg_ℤ (pos 1) ∷ pos 2 ∷ []) (pos 200) ≡ refuses 11 0
  -- "up to 4,096 runs"
  pub over-count : monday (replicate 8194 (pos 1)) (pos 200) ≡ refuses 11 0

pub mondays : Mondays
unfolding everything
mondays = record {
  whole = refl;
  part = refl;
  apart = refl;
  before-nine = refl;
  none-works = refl;
  empty = refl;
  widest = refl;
  too_wide = refl;
  no-width = refl;
  log-first = refl;
  instant-first = refl;
  touching = refl;
  overlap = refl;
  no_length = refl;
  below-0 = refl;
  over-count = refl;
}

-- at the last instant less 10 s a run of 10 s is taken, and one of 11 s is not
abbrev at_the_end : ℤ → Answer Reply
at_the_end long = hardest office no_zones (pos 253402207190) (pos 999999999) (pos 0 ∷ long ∷ []) (pos 100)

pub last_taken : at_the_end (pos 10) ≡ gives (record { values = pos 0 ∷ pos 0 ∷ pos 253402207190 ∷ pos 999999999 ∷ []; windows = none })
unfolding everything
last_taken = refl

pub past-the-last : at_the_end (pos 11) ≡ refuses 11 0
unfolding everything
past-the-last = refl
