-- The footer's offset and how far it stays: one law for each answer of the code.
use mathlib.Core.Path.{◌≡◌}
use Prim.Native.Nat.{ℕ, ◌≤◌, ◌<◌, min}
use native.Mathlib.Omega.{arith}
use Rattle.model.specs.Footer as model
use Rattle.model.specs.Footer.{change_in}
use Rattle.model.specs.Zone.{ruled_at}
use Rattle.laws_calendar.specs.Years.{dby-hi}
use Rattle.laws_zone.specs.FooterChanges.{ChangeRuleFits, day-hi}
use Rattle.laws_zone.specs.Grammar.{FooterFits}
use Rattle.laws_zone.specs.Runs.{Run}
use Rattle.zone_changes.specs.Meaning.{Near, last_year, changes_end}
use Rattle.zone_changes.specs.MeaningLaws.{rules-run, rules-daylight, rules-standard}

module _ (std dst : ℕ) (start end : model.ChangeRule) (fits : FooterFits (model.rules std dst start end)) {u la na lb nb n : ℕ}
    (a : Near (change_in std start) u la na) (b : Near (change_in dst end) u lb nb) (q : n ≡ min na nb) where
  pub by-all-years-daylight : lb ≤ la → (last : ℕ) → (dst ≡ ruled_at (model.rules std dst start end) last u) × Run (ruled_at (model.rules std dst start end) last) u n
  by-all-years-daylight h last = (rules-daylight std dst start end fits last a b h, rules-run std dst start end fits last a b q)

  pub by-all-years-standard : la < lb → (last : ℕ) → (std ≡ ruled_at (model.rules std dst start end) last u) × Run (ruled_at (model.rules std dst start end) last) u n
  by-all-years-standard h last = (rules-standard std dst start end fits last a b h, rules-run std dst start end fits last a b q)

-- a change of a year that has a date
pub change-small : (o y : ℕ) (t : model.ChangeRule) → ChangeRuleFits t → y ≤ last_year → {r : ℕ} → r ≡ change_in o t y → r < changes_end
unfolding change_in
change-small o y t f h e = omega (arith, day-hi y t.day f.day-fits, f.time-fits, dby-hi y)
