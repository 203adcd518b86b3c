-- Laws of a footer's changes: what the code finds in four years is the latest of all and the next of all, and up to the next the offset stays.
use Rattle.std.specs.Prelude.{◌≡◌, [], ◌∷◌, map}
use Rattle.std.proofs.Math.Path.{refl}
use Rattle.std.proofs.Common.{sym, ◌∙◌, ap}
use Prim.Native.Nat.{ℕ, suc, ◌+◌, ◌-◌, ◌≤◌, ◌<◌, min}
use native.Mathlib.Omega.{arith}
use Rattle.std.proofs.Math.Decide.{dec_le, dec_lt}
use Rattle.std.proofs.Math.Dec.{leb}
use borrow.Author.Tests.{le-leb, lt-leb}
use Rattle.model.specs.Basic.{run, filter, maximum}
use Rattle.model.specs.Footer as model
use Rattle.model.specs.Footer.{change_in}
use Rattle.model.specs.Zone.{latest, year_at, ruled_at}
use Rattle.laws_base.specs.Test.{by-either}
use Rattle.laws_zone.specs.FooterChanges.{ChangeRuleFits, latest-is, latest-le, latest-of-all, change-rises, two-before, two-after, daylight, standard}
use Rattle.laws_zone.specs.Grammar.{FooterFits}
use Rattle.laws_zone.specs.Runs as runs
use Rattle.zone_changes.specs.Meaning.{Near}
use Rattle.model.specs.Offset.{greatest_offset}

-- ---- the latest of four that rise

module _ (u : ℕ) {a b c d : ℕ} (p : a ≤ b) (q : b ≤ c) (r : c ≤ d) where
  abbrev greatest : ℕ
  greatest = maximum (filter (λ x. leb x u) (a ∷ b ∷ c ∷ d ∷ []))

  fourth : d ≤ u → d ≡ greatest
  unfolding filter
  fourth h =
      let x : a ≤ u = omega arith in
      let y : b ≤ u = omega arith in
      let z : c ≤ u = omega arith in
      rw (le-leb a u x, le-leb b u y, le-leb c u z, le-leb d u h) (omega arith)

  third : u < d → c ≤ u → c ≡ greatest
  unfolding filter
  third k h =
      let x : a ≤ u = omega arith in
      let y : b ≤ u = omega arith in
      rw (le-leb a u x, le-leb b u y, le-leb c u h, lt-leb d u k) (omega arith)

  second : u < c → b ≤ u → b ≡ greatest
  unfolding filter
  second k h =
      let x : a ≤ u = omega arith in
      let y : u < d = omega arith in
      rw (le-leb a u x, le-leb b u h, lt-leb c u k, lt-leb d u y) (omega arith)

  first : u < b → a ≤ u → a ≡ greatest
  unfolding filter
  first k h =
      let x : u < c = omega arith in
      let y : u < d = omega arith in
      rw (le-leb a u h, lt-leb b u k, lt-leb c u x, lt-leb d u y) (omega arith)

  none_yet_lem : u < a → 0 ≡ greatest
  unfolding filter
  none_yet_lem h =
      let x : u < b = omega arith in
      let y : u < c = omega arith in
      let z : u < d = omega arith in
      rw (lt-leb a u h, lt-leb b u x, lt-leb c u y, lt-leb d u z) refl

-- ---- the changes around a second

module _ (o : ℕ) (t : model.ChangeRule) (ho : o ≤ greatest_offset) (f : ChangeRuleFits t) where
  abbrev change : ℕ → ℕ
  change = change_in o t

  rises : (a b : ℕ) → a ≤ b → change a ≤ change b
  rises a b h = go (dec_lt a b)
    where
      go : Dec (a < b) → change a ≤ change b
      go (yes l) = change-rises o t ho f a b l
      go (no n) = let e : a ≡ b = omega arith in omega (arith, ap change e)

  -- behind the change of the year k none comes before that of the year k + 1
  behind : (u k : ℕ) → change k ≤ u → (y : ℕ) → u < change y → change (k + 1) ≤ change y
  behind u k h y l = go (dec_le (k + 1) y)
    where
      go : Dec (k + 1 ≤ y) → change (k + 1) ≤ change y
      go (yes p) = rises (k + 1) y p
      go (no p) = absurd (omega (arith, rises y k (omega arith)))

  latest-four : (u : ℕ) → latest change u ≡ maximum (filter (λ x. leb x u) (change (year_at u - 2) ∷ change (year_at u - 2 + 1) ∷ change (year_at u - 2 + 2) ∷ change (year_at u - 2 + 3) ∷ []))
  unfolding latest run
  latest-four u = four (year_at u - 2)
    where
      four : (y : ℕ) → maximum (filter (λ x. leb x u) (map change (run y 4))) ≡ maximum (filter (λ x. leb x u) (change y ∷ change (y + 1) ∷ change (y + 2) ∷ change (y + 3) ∷ []))
      four y =
          let a : suc y ≡ y + 1 = omega arith in
          let b : suc (suc y) ≡ y + 2 = omega arith in
          let c : suc (suc (suc y)) ≡ y + 3 = omega arith in
          rw (c, b, a)

  module _ (u : ℕ) {y : ℕ} (e : y ≡ year_at u - 2) where
    is-latest : latest change u ≡ maximum (filter (λ x. leb x u) (change y ∷ change (y + 1) ∷ change (y + 2) ∷ change (y + 3) ∷ []))
    is-latest = rw e (latest-four u)

    a-b : change y ≤ change (y + 1)
    a-b = rises y (y + 1) (omega arith)

    b-c : change (y + 1) ≤ change (y + 2)
    b-c = rises (y + 1) (y + 2) (omega arith)

    c-d : change (y + 2) ≤ change (y + 3)
    c-d = rises (y + 2) (y + 3) (omega arith)

    -- the change at k + 1 is the next, where the one at k is the latest
    near-from : (k : ℕ) {m l n : ℕ} → m ≡ k + 1 → l ≡ change k → n ≡ change m → l ≤ u → u < n → l ≡ latest change u → Near change u l n
    near-from k q el en h g w = record {
      last-is = w;
      on = g;
      none_before = λ z j. rw (en, q) (behind u k (omega arith) z j);
    }

    pub near-fourth : {d n : ℕ} → d ≡ change (y + 3) → n ≡ change (y + 4) → d ≤ u → Near change u d n
    near-fourth {d} {n} p q h =
        near-from (y + 3) (omega arith) p q h (omega (arith, two-after o t ho f u (y + 4) (omega arith)))
        (p ∙ fourth u a-b b-c c-d (omega arith) ∙ sym is-latest)

    pub near-third : {c d : ℕ} → d ≡ change (y + 3) → c ≡ change (y + 2) → u < d → c ≤ u → Near change u c d
    near-third p q g h = near-from (y + 2) (omega arith) q p h g (q ∙ third u a-b b-c c-d (omega arith) (omega arith) ∙ sym is-latest)

    pub near-second : {b c : ℕ} → c ≡ change (y + 2) → b ≡ change (y + 1) → u < c → b ≤ u → Near change u b c
    near-second p q g h = near-from (y + 1) (omega arith) q p h g (q ∙ second u a-b b-c c-d (omega arith) (omega arith) ∙ sym is-latest)

    pub near_first : {a b : ℕ} → b ≡ change (y + 1) → a ≡ change y → u < b → a ≤ u → Near change u a b
    near_first p q g h = near-from y (omega arith) q p h g (q ∙ first u a-b b-c c-d (omega arith) (omega arith) ∙ sym is-latest)

    -- only in the first two years can there be none
    pub near_none : {a : ℕ} → a ≡ change y → u < a → Near change u 0 a
    near_none {a} q g = record {
      last-is = none_yet_lem u a-b b-c c-d (omega arith) ∙ sym is-latest;
      on = g;
      none_before = λ z j. go z (dec_le y z);
    }
      where
        go : (z : ℕ) → Dec (y ≤ z) → a ≤ change z
        go z (yes h) = omega (arith, rises y z h)
        go z (no h) = absurd (omega (arith, two-before o t ho f u (omega arith), ap change e))

  -- up to the next change the latest stays
  pub latest-stays : {u l n v : ℕ} → Near change u l n → u ≤ v → v < n → latest change v ≡ latest change u
  latest-stays {u} {l} {n} {v} m h k = omega (arith, later, earlier)
    where
      later : latest change u ≤ latest change v
      later =
          by-either (λ (p : latest change u ≡ 0). omega arith)
          (λ (p : (y : ℕ) × (change y ≡ latest change u)). omega (arith, p.1, latest-of-all o t ho f v p.0 (omega (arith, p.1, latest-le change u))))
          (latest-is change u)

      old : (y : ℕ) → change y ≤ v → Dec (change y ≤ u) → change y ≤ u
      old y p (yes q) = q
      old y p (no q) = absurd (omega (arith, m.none_before y (omega arith)))

      earlier : latest change v ≤ latest change u
      earlier =
          by-either (λ (p : latest change v ≡ 0). omega arith)
          (λ (p : (y : ℕ) × (change y ≡ latest change v)).
          let b : change p.0 ≤ v = omega (arith, p.1, latest-le change v) in
          omega (arith, p.1, latest-of-all o t ho f u p.0 (old p.0 b (dec_le (change p.0) u))))
          (latest-is change v)

-- ---- the footer

module _ (std dst : ℕ) (start end : model.ChangeRule) (fits : FooterFits (model.rules std dst start end)) (o : ℕ) {u la na lb nb : ℕ}
    (a : Near (change_in std start) u la na) (b : Near (change_in dst end) u lb nb) where
  pub rules-run : {n : ℕ} → n ≡ min na nb → runs.Run (ruled_at (model.rules std dst start end) o) u n
  unfolding ruled_at
  rules-run {n} e = record {
    on = omega (arith, a.on, b.on);
    same = λ v p q. rw (latest-stays std start fits.0.1 fits.2 a p (omega arith), latest-stays dst end fits.1.1 fits.3 b p (omega arith));
  }

  pub rules-daylight : lb ≤ la → dst ≡ ruled_at (model.rules std dst start end) o u
  rules-daylight h = sym (daylight std dst start end o u (omega (arith, a.last-is, b.last-is)))

  pub rules-standard : la < lb → std ≡ ruled_at (model.rules std dst start end) o u
  rules-standard h = sym (standard std dst start end o u (omega (arith, a.last-is, b.last-is)))
