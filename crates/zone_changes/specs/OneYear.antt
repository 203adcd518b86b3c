-- Two changes that come once a year, more than four weeks apart: which of the two was the latest at a second, by their seconds in one year alone.
-- From year to year a change varies by at most two weeks, so that the order of the two is the same in all years, and 349 days or more lie between a
-- change and the next of its kind.
use Rattle.std.specs.Prelude.{◌≡◌, ℕ, ◌+◌, ◌-◌, ◌≤◌, ◌<◌}
use Rattle.std.proofs.Common.{sym, ◌∙◌, arith}
use Rattle.std.proofs.Math.Decide.{dec_le}
use Rattle.model.specs.Footer as model
use Rattle.model.specs.Footer.{change_in}
use Rattle.model.specs.Zone.{latest, ruled_at}
use Rattle.laws_base.specs.Test.{by-either}
use Rattle.laws_calendar.specs.Years.{dby-hi, dby-lo}
use Rattle.laws_zone.specs.FooterChanges.{ChangeRuleFits, latest-is, latest-le, latest-of-all, change-rises, change-varies, daylight, standard}
use Rattle.laws_zone.specs.Grammar.{FooterFits}
use Rattle.zone_changes.specs.Meaning.{ByTwoChanges, between, ahead, behind, Sure, four_weeks, least_year}
use Rattle.model.specs.Offset.{greatest_offset}

-- ---- one change

module _ (o : ℕ) (t : model.ChangeRule) (ho : o ≤ greatest_offset) (f : ChangeRuleFits t) where
  -- the next of its kind comes 349 days later or more
  yearly : (y : ℕ) → 1 ≤ y → change_in o t y + least_year ≤ change_in o t (y + 1)
  yearly y h = omega (arith, change-varies o t ho f (y + 1) y h, dby-hi y, dby-lo (y + 1))

  -- a change that comes before that of the year y + 1 comes no later than that of the year y
  not-later : (y z : ℕ) → change_in o t z < change_in o t (y + 1) → change_in o t z ≤ change_in o t y
  not-later y z h = go (dec_le z y) (dec_le (y + 2) z)
    where
      go : Dec (z ≤ y) → Dec (y + 2 ≤ z) → change_in o t z ≤ change_in o t y
      go (yes p) q = up_to (dec_le y z)
        where
          up_to : Dec (y ≤ z) → change_in o t z ≤ change_in o t y
          up_to (yes k) = let e : z ≡ y = omega arith in rw e (omega arith)
          up_to (no k) = change-rises o t ho f z y (omega arith)
      go (no p) (yes q) = absurd (omega (arith, change-rises o t ho f (y + 1) z (omega arith)))
      go (no p) (no q) = let e : z ≡ y + 1 = omega arith in absurd (let k = (rw e at h) in omega (arith, k))

  -- so where the change of the year y + 1 has not come, the latest is no later than that of the year y
  latest-by : (v y : ℕ) → v < change_in o t (y + 1) → latest (change_in o t) v ≤ change_in o t y
  latest-by v y h =
      by-either (λ (p : latest (change_in o t) v ≡ 0). omega arith)
      (λ (p : (z : ℕ) × (change_in o t z ≡ latest (change_in o t) v)).
      omega (arith, p.1, not-later y p.0 (omega (arith, p.1, latest-le (change_in o t) v))))
      (latest-is (change_in o t) v)

-- ---- two changes, the first of which comes more than four weeks before the second in the year y

-- o is the offset that the later of the two latest changes brings
pub data Later (inner outer first second o : ℕ) : Type 0 where
  is-inner : o ≡ inner → second < first → Later inner outer first second o
  is-outer : o ≡ outer → first < second → Later inner outer first second o

module _ (a b : ℕ) (s t : model.ChangeRule) (ha : a ≤ greatest_offset) (hb : b ≤ greatest_offset) (fs : ChangeRuleFits s) (ft : ChangeRuleFits t) (y : ℕ) (hy : 2 ≤ y)
    (h : change_in a s y + four_weeks < change_in b t y) where
  -- the order of the two is the same a year before
  same-order : change_in a s (y - 1) < change_in b t (y - 1)
  same-order = omega (arith, change-varies a s ha fs y (y - 1) (omega arith), change-varies b t hb ft (y - 1) y (omega arith))

  first-before : change_in a s (y - 1) + least_year ≤ change_in a s y
  first-before = let e : y - 1 + 1 ≡ y = omega arith in rw e at (yearly a s ha fs (y - 1) (omega arith))

  second-before : change_in b t (y - 1) + least_year ≤ change_in b t y
  second-before = let e : y - 1 + 1 ≡ y = omega arith in rw e at (yearly b t hb ft (y - 1) (omega arith))

  first_by : (v : ℕ) → v < change_in a s y → latest (change_in a s) v ≤ change_in a s (y - 1)
  first_by v k = let e : y - 1 + 1 ≡ y = omega arith in latest-by a s ha fs v (y - 1) (rw e k)

  second-by : (v : ℕ) → v < change_in b t y → latest (change_in b t) v ≤ change_in b t (y - 1)
  second-by v k = let e : y - 1 + 1 ≡ y = omega arith in latest-by b t hb ft v (y - 1) (rw e k)

  -- what follows for u holds of each second from u on, before n
  pub two-changes : {inner outer p q u o n : ℕ} → p ≡ change_in a s y → q ≡ change_in b t y → ByTwoChanges inner outer p q u o n → (v : ℕ) → u ≤ v → v < n
      → Later inner outer (latest (change_in a s) v) (latest (change_in b t) v) o
  two-changes ep eq (between e i m g) v j k =
      is-inner e (omega (arith, second-by v (omega arith), second-before, latest-of-all a s ha fs v y (omega arith)))
  two-changes ep eq (ahead e m g) v j k =
      is-outer e (omega (arith, first_by v (omega arith), same-order, latest-of-all b t hb ft v (y - 1) (omega (arith, second-before))))
  two-changes ep eq (behind e i m) v j k =
      is-outer e (omega (arith, latest-by a s ha fs v y (omega (arith, yearly a s ha fs y (omega arith))), latest-of-all b t hb ft v y (omega arith)))

-- ---- the footer

module _ (std dst : ℕ) (start end : model.ChangeRule) (fits : FooterFits (model.rules std dst start end)) (last : ℕ) where
  north-is : (v : ℕ) {o : ℕ} → Later dst std (latest (change_in std start) v) (latest (change_in dst end) v) o → ruled_at (model.rules std dst start end) last v ≡ o
  north-is v (is-inner e h) = daylight std dst start end last v (omega arith) ∙ sym e
  north-is v (is-outer e h) = standard std dst start end last v h ∙ sym e

  south-is : (v : ℕ) {o : ℕ} → Later std dst (latest (change_in dst end) v) (latest (change_in std start) v) o → ruled_at (model.rules std dst start end) last v ≡ o
  south-is v (is-inner e h) = standard std dst start end last v h ∙ sym e
  south-is v (is-outer e h) = daylight std dst start end last v (omega arith) ∙ sym e

  sure : {u o n : ℕ} → ((v : ℕ) → u ≤ v → v < n → ruled_at (model.rules std dst start end) last v ≡ o) → Sure (ruled_at (model.rules std dst start end) last) u o n
  sure {u} f h = (sym (f u (omega arith) h), record { on = h; same = λ v i j. f v i j ∙ sym (f u (omega arith) h) })

  module _ (y : ℕ) (hy : 2 ≤ y) {p q u o n : ℕ} (ep : p ≡ change_in std start y) (eq : q ≡ change_in dst end y) where
    -- daylight time begins before it ends in each year
    pub north : p + four_weeks < q → ByTwoChanges dst std p q u o n → Sure (ruled_at (model.rules std dst start end) last) u o n
    north h k = sure (λ v i j. north-is v (two-changes std dst start end fits.0.1 fits.1.1 fits.2 fits.3 y hy (omega arith) ep eq k v i j))

    -- it ends before it begins
    pub south : q + four_weeks < p → ByTwoChanges std dst q p u o n → Sure (ruled_at (model.rules std dst start end) last) u o n
    south h k = sure (λ v i j. south-is v (two-changes dst std end start fits.1.1 fits.0.1 fits.3 fits.2 y hy (omega arith) eq ep k v i j))
