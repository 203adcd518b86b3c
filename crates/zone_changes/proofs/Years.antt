-- The latest change at or before a second among those of four years, and the one behind it.
use mathlib.Core.Path.{◌≡◌, ◌∙◌, ap}
use Prim.Native.Nat.{ℕ, ◌+◌, ◌-◌, ◌≤◌, ◌<◌}
use native.Mathlib.Decide.{dec_le}
use native.Mathlib.Omega.{arith}
use Rattle.model.specs.Footer as model
use Rattle.model.specs.Footer.{change_in}
use Rattle.model.specs.Offset.{greatest_offset}
use Rattle.model.specs.Zone.{year_at}
use Rattle.laws_zone.specs.FooterChanges.{ChangeRuleFits}
use Rattle.zone_changes.specs.Meaning.{Near}
use Rattle.zone_changes.specs.MeaningLaws.{near-fourth, near-third, near-second, near_first}

-- from the year y on, four years are looked at from the last back: `next` is the change of the year k, and comes behind u unless no year was looked at
pub record Seeking (o : ℕ) (t : model.ChangeRule) (u y k next : ℕ) : Type 0 where
  pub next-is : next ≡ change_in o t k
  pub few : k ≤ y + 4
  pub from : y ≤ k
  pub past : k < y + 4 → u < next

module _ (o : ℕ) (t : model.ChangeRule) (ho : o ≤ greatest_offset) (f : ChangeRuleFits t) (u : ℕ) {y : ℕ} (e : y ≡ year_at u - 2) where
  pub near-at : {k m last next : ℕ} → m ≡ k + 1 → y ≤ k → Seeking o t u y m next → last ≡ change_in o t k → last ≤ u → Near (change_in o t) u last next
  near-at {k} {m} {last} {next} b a s q h = go (dec_le (y + 3) k) (dec_le (y + 2) k) (dec_le (y + 1) k)
    where
      as-of : (j : ℕ) → k ≡ j → last ≡ change_in o t j
      as-of j z = q ∙ ap (change_in o t) z

      next-of : (j : ℕ) → m ≡ j → next ≡ change_in o t j
      next-of j z = s.next-is ∙ ap (change_in o t) z

      go : Dec (y + 3 ≤ k) → Dec (y + 2 ≤ k) → Dec (y + 1 ≤ k) → Near (change_in o t) u last next
      go (yes p) _ _ = near-fourth o t ho f u e (as-of (y + 3) (omega (arith, s.few))) (next-of (y + 4) (omega (arith, s.few))) h
      go (no p) (yes r) _ = near-third o t ho f u e (next-of (y + 3) (omega arith)) (as-of (y + 2) (omega arith)) (s.past (omega arith)) h
      go (no p) (no r) (yes w) = near-second o t ho f u e (next-of (y + 2) (omega arith)) (as-of (y + 1) (omega arith)) (s.past (omega arith)) h
      go (no p) (no r) (no w) = near_first o t ho f u e (next-of (y + 1) (omega arith)) (as-of y (omega arith)) (s.past (omega arith)) h
