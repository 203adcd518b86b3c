-- Local times in nanoseconds: the offset at an instant, what `resolve` takes for a time of day, and the local dates at an instant.
use Rattle.std.specs.Prelude.{◌≡◌, true, ℕ, ◌+◌, ◌*◌, ◌-◌, ◌/◌, ◌%◌, ◌≤◌, ◌<◌, leb, ltb}
use Rattle.std.proofs.Math.Path.{ap}
use native.Mathlib.Omega.{arith}
use borrow.Author.Tests.{leb-true, leb-false, lt-ltb, le-ltb, ltb-true}
use Rattle.model.specs.Calendar.{first_day, last_day, day_of_year_zero}
use Rattle.model.specs.Instant.{second, day, first_instant, last_instant, day_seconds}
use Rattle.model.specs.Tzif.{Zone}
use Rattle.model.specs.Zone.{offset_at, second_of, resolve, steady}
use Rattle.model.specs.Working.{local_day, first_date, last_date}
use Rattle.laws_base.specs.Test.{by-test}
use Rattle.laws_zone.specs.Sound.{Sound, dawn}
use Rattle.model.specs.Offset.{offset_bias, greatest_offset}

-- offsets are kept with 26 hours added
abbrev pub bias : ℕ
bias = offset_bias * second

-- the offset at an instant, in nanoseconds
unfoldable pub offset_nanos : Zone → ℕ → ℕ
offset_nanos z t = offset_at z (t / second) * second

-- the instant of a time of day on a day, before it is brought into the range
unfoldable pub raw : Zone → ℕ → ℕ → ℕ
raw z d time = second_of z (d * day_seconds + time / second + offset_bias) * second + time % second

-- brought into the range
pub data Clamped (r : ℕ) : ℕ → Type 0 where
  kept : first_instant ≤ r → r ≤ last_instant → Clamped r r
  early : r < first_instant → Clamped r first_instant
  late : last_instant < r → Clamped r last_instant

module _ (z : Zone) (s : Sound z) where
  pub offset-low : (t : ℕ) → second ≤ offset_nanos z t
  unfolding offset_nanos
  offset-low t = let h = s.low (t / second) in omega arith

  pub offset-high : (t : ℕ) → offset_nanos z t ≤ greatest_offset * second
  unfolding offset_nanos
  offset-high t = let h = s.high (t / second) in omega arith

  -- a local time takes that time less an offset of the zone
  pub raw-takes : (d time : ℕ) → first_day ≤ d → (w : ℕ) × (dawn ≤ w) × (raw z d time + offset_at z w * second ≡ d * day + time + bias)
  unfolding raw
  raw-takes d time h =
      let k = s.some (d * day_seconds + time / second + offset_bias) (omega arith) in
      let k2 = k.2 in
      (k.0, k.1, omega arith)

  pub raw-some : (d time : ℕ) → first_day ≤ d → (w : ℕ) × (raw z d time + offset_nanos z w ≡ d * day + time + bias)
  unfolding offset_nanos
  raw-some d time h =
      let k = raw-takes d time h in
      let e : (k.0 * second) / second ≡ k.0 = omega arith in
      (k.0 * second, rw e k.2)

  -- the least instant that reads so, if there is one
  pub raw-least : (u d time : ℕ) → first_day ≤ d → u + offset_nanos z u ≡ d * day + time + bias → (raw z d time + offset_nanos z (raw z d time) ≡ d * day + time + bias) × (raw z d time ≤ u)
  unfolding raw offset_nanos
  raw-least u d time h e =
      let k = s.least (u / second) (d * day_seconds + time / second + offset_bias) (omega arith) (omega arith) in
      let v = second_of z (d * day_seconds + time / second + offset_bias) in
      let q : (v * second + time % second) / second ≡ v = omega arith in
      let k0 = k.0 in let k1 = k.1 in
      (rw q (omega arith), omega arith)

  pub in-range : (d time : ℕ) → first_day ≤ d → d ≤ last_day → time < day → Clamped (raw z d time) (resolve z d time)
  unfolding raw resolve
  in-range d time a b c =
      let k = raw-some d time a in let e = k.1 in
      let h = offset-high k.0 in let l = offset-low k.0 in
      by-test (leb first_instant (raw z d time))
      (λ p. by-test (leb (raw z d time) last_instant)
      (λ q. rw (p, q) (kept (leb-true first_instant (raw z d time) p) (leb-true (raw z d time) last_instant q)))
      (λ q. let v = leb-false (raw z d time) last_instant q in rw (p, q, le-ltb d day_of_year_zero (omega arith)) (late v)))
      (λ p. let v = leb-false first_instant (raw z d time) p in rw (p, lt-ltb d day_of_year_zero (omega arith)) (early v))

  -- a span without change has one offset
  pub same-offset : (a b : ℕ) → first_instant ≤ a → steady z (a / second) (b / second) ≡ true → (u : ℕ) → a ≤ u → u ≤ b → offset_nanos z u ≡ offset_nanos z a
  unfolding offset_nanos
  same-offset a b h e u p q = ap (λ k. k * second) (s.same (a / second) (b / second) (omega arith) e (u / second) (omega arith) (omega arith))

  -- ---- the local date at an instant

  pub day-is : (t : ℕ) → local_day z t ≡ (t + offset_nanos z t - bias) / day
  unfolding local_day offset_nanos
  day-is t = omega arith

  pub first-from : (lo : ℕ) → first_instant ≤ lo → first_day ≤ first_date z lo
  unfolding first_date
  first-from lo h =
      let q = day-is lo in let a = offset-low lo in
      by-test (leb (first_day + 2) (local_day z lo))
      (λ p. rw p (omega (arith, leb-true (first_day + 2) (local_day z lo) p)))
      (λ p. rw p (omega arith))

  pub last-upto : (hi : ℕ) → hi ≤ last_instant → last_date z hi ≤ last_day
  unfolding last_date
  last-upto hi h =
      let q = day-is hi in let a = offset-high hi in
      by-test (ltb (local_day z hi) last_day)
      (λ p. rw p (omega (arith, ltb-true (local_day z hi) last_day p)))
      (λ p. rw p (omega arith))

  -- the first and the last of a window's dates are at most two before and one after the local dates at its ends
  pub first-near : (lo : ℕ) → local_day z lo ≤ first_date z lo + 2
  unfolding first_date
  first-near lo = by-test (leb (first_day + 2) (local_day z lo)) (λ p. rw p (omega arith)) (λ p. rw p (omega arith))

  pub first-upto : (lo : ℕ) → first_date z lo ≤ local_day z lo
  unfolding first_date
  first-upto lo = by-test (leb (first_day + 2) (local_day z lo)) (λ p. rw p (omega arith)) (λ p. rw p (omega arith))

  pub last-near : (hi : ℕ) → last_date z hi ≤ local_day z hi + 1
  unfolding last_date
  last-near hi = by-test (ltb (local_day z hi) last_day) (λ p. rw p (omega arith)) (λ p. rw p (omega arith))

  pub last-from : (hi : ℕ) → local_day z hi ≤ last_date z hi
  unfolding last_date
  last-from hi = by-test (ltb (local_day z hi) last_day) (λ p. rw p (omega arith)) (λ p. rw p (omega arith))
