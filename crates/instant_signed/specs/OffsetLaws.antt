-- Instants and durations read from signed numbers that stand as their offsets, the unsigned numbers that are 2^63 more.
use Rattle.std.specs.Prelude.{◌≡◌, refl, true, false, ℕ, ◌+◌, ◌-◌, ◌^◌, ◌≤◌, ◌<◌, leb, ltb, ℤ, pos, negsuc, nat_abs, ◌+ℤ◌, Some, None}
use Rattle.std.proofs.Common.{sym, ap, ◌∙◌, inl, inr, arith, SFits, leb-true, leb-false, ltb-true, ltb-false}
use Rattle.std.proofs.lemmas.Int.{ints}
use Rattle.std.specs.Int.{w64}
use Rattle.model.specs.Instant.{epoch, second, is_below_0, instant_of, duration_of, first_second, last_second}
use Rattle.laws_base.specs.Test.{by-test, clash}
use Rattle.instant_signed.specs.Signed.{biased, unbiased, biased-plus, biased-minus, unbiased-high, unbiased-less}
use Rattle.instant_signed.specs.Reads.{instant_read, seconds_from}
use Rattle.instant_signed.specs.ReadLaws.{IsInstant, read-no, read-yes}
use Rattle.instant_signed.specs.Durations.{duration_read}
use Rattle.instant_signed.specs.DurationLaws.{too_long, opposed, is-span}

offset-is : (z : ℤ) → SFits w64 z → pos (biased z) ≡ z +ℤ pos (2 ^ 63)
offset-is (pos n) f = ap pos (biased-plus n)
offset-is (negsuc n) f = omega (arith, ints, biased-minus n f.sfits, f.sfits)

-- ---- instants

-- the offsets of an instant's seconds and nanoseconds
pub record Offsets (a b : ℕ) : Type 0 where
  pub from : 2 ^ 63 + first_second ≤ a + epoch
  pub to : a + epoch ≤ 2 ^ 63 + last_second
  pub least : 2 ^ 63 ≤ b
  pub most : b < 2 ^ 63 + second

module _ (s n : ℤ) (f : SFits w64 s) (g : SFits w64 n) where
  offsets : IsInstant s n → Offsets (biased s) (biased n)
  offsets v =
      let p = offset-is s f in
      let q = offset-is n g in
      record { from = omega (arith, ints, v.from); to = omega (arith, ints, v.to); least = omega (arith, ints, v.least); most = omega (arith, ints, v.most) }

  numbers : Offsets (biased s) (biased n) → IsInstant s n
  numbers o =
      let p = offset-is s f in
      let q = offset-is n g in
      record { from = omega (arith, ints, o.from); to = omega (arith, ints, o.to); least = omega (arith, ints, o.least); most = omega (arith, ints, o.most) }

pub read_out : (s n : ℤ) → SFits w64 s → SFits w64 n → (Offsets (biased s) (biased n) → ⊥) → None ≡ instant_read (instant_of s n)
read_out s n f g h = read-no s n (λ v. h (offsets s n f g v))

pub read_at :
    (s n : ℤ) (a b : ℕ) → SFits w64 s → SFits w64 n → Offsets (biased s) (biased n) → a + 2 ^ 63 ≡ biased s + epoch → b + 2 ^ 63 ≡ biased n →
    Some (record { sec = a; ns = b }) ≡ instant_read (instant_of s n)
read_at s n a b f g o d e =
    let p = offset-is s f in
    let q = offset-is n g in
    read-yes s n a b (numbers s n f g o) (omega (arith, ints)) (omega (arith, ints))

-- ---- the sign and the size of a duration

-- the sign and the size of a number, from its offset
neg-parts : (z : ℤ) → SFits w64 z → biased z < 2 ^ 63 → (is_below_0 z ≡ true) × (nat_abs z + biased z ≡ 2 ^ 63)
neg-parts (pos n) f h = absurd (omega (arith, biased-plus n))
neg-parts (negsuc n) f h = (refl, omega (arith, biased-minus n f.sfits, f.sfits))

nat-parts : (z : ℤ) → SFits w64 z → 2 ^ 63 ≤ biased z → (is_below_0 z ≡ false) × (nat_abs z + 2 ^ 63 ≡ biased z)
nat-parts (pos n) f h = (refl, sym (biased-plus n))
nat-parts (negsuc n) f h = absurd (omega (arith, biased-minus n f.sfits, f.sfits))

module _ (s n : ℤ) (f : SFits w64 s) (g : SFits w64 n) where
  pub span-low : biased n ≤ 2 ^ 63 - second → None ≡ duration_read (duration_of s n)
  span-low h = let p = neg-parts n g (omega arith) in too_long s n (omega arith)

  pub span-high : 2 ^ 63 + second ≤ biased n → None ≡ duration_read (duration_of s n)
  span-high h = let p = nat-parts n g (omega arith) in too_long s n (omega arith)

  -- seconds below 0 and nanoseconds above
  pub span-down : biased s < 2 ^ 63 → 2 ^ 63 < biased n → biased n < 2 ^ 63 + second → None ≡ duration_read (duration_of s n)
  span-down h k l =
      let p = neg-parts s f h in
      let q = nat-parts n g (omega arith) in
      let y = offset-is n g in
      opposed s n (omega arith) (simp p.0) (inr (omega (arith, ints)))

  -- seconds above 0 and nanoseconds below
  pub span-up : 2 ^ 63 < biased s → biased n < 2 ^ 63 → 2 ^ 63 < biased n + second → None ≡ duration_read (duration_of s n)
  span-up h k l =
      let p = nat-parts s f (omega arith) in
      let q = neg-parts n g k in
      let x = offset-is s f in
      opposed s n (omega arith) (simp (p.0, q.0)) (inl (omega (arith, ints)))

  -- seconds below 0
  pub span-neg : (a b : ℕ) → biased s < 2 ^ 63 → biased n ≤ 2 ^ 63 → 2 ^ 63 < biased n + second → a + biased s ≡ 2 ^ 63 → b + biased n ≡ 2 ^ 63 → Some (record { minus = true; length = record { sec = a; ns = b } }) ≡ duration_read (duration_of s n)
  span-neg a b h k l d e =
      let p = neg-parts s f h in
      let x = offset-is s f in
      let y = offset-is n g in
      let z : nat_abs n + biased n ≡ 2 ^ 63 =
      by-test (ltb (biased n) (2 ^ 63))
      (λ t. (neg-parts n g (ltb-true _ _ t)).1)
      (λ t. let u : 2 ^ 63 ≤ biased n = ltb-false _ _ t in let q = nat-parts n g u in omega arith) in
      is-span s n (omega arith) (simp p.0) (λ m. (omega (arith, ints), omega (arith, ints))) (omega arith) (omega arith)

  -- no seconds, and nanoseconds below 0
  pub span_rest : (b : ℕ) → biased s ≡ 2 ^ 63 → biased n < 2 ^ 63 → 2 ^ 63 < biased n + second → b + biased n ≡ 2 ^ 63 → Some (record { minus = true; length = record { sec = 0; ns = b } }) ≡ duration_read (duration_of s n)
  span_rest b h k l e =
      let p = nat-parts s f (omega arith) in
      let q = neg-parts n g k in
      let x = offset-is s f in
      let y = offset-is n g in
      is-span s n (omega arith) (simp (p.0, q.0)) (λ m. (omega (arith, ints), omega (arith, ints))) (omega arith) (omega arith)

  pub span-nat : (a b : ℕ) → 2 ^ 63 ≤ biased s → 2 ^ 63 ≤ biased n → biased n < 2 ^ 63 + second → a + 2 ^ 63 ≡ biased s → b + 2 ^ 63 ≡ biased n → Some (record { minus = false; length = record { sec = a; ns = b } }) ≡ duration_read (duration_of s n)
  span-nat a b h k l d e =
      let p = nat-parts s f h in
      let q = nat-parts n g k in
      is-span s n (omega arith) (simp (p.0, q.0)) (λ m. clash false m refl) (omega arith) (omega arith)

-- ---- written back

pub seconds-is : (k : ℕ) → k < 2 ^ 63 → unbiased (k + (2 ^ 63 - epoch)) ≡ seconds_from k
unfolding seconds_from
seconds-is k h =
    by-test (leb epoch k)
    (λ t. let l : epoch ≤ k = leb-true _ _ t in simp t (unbiased-high (k + (2 ^ 63 - epoch)) (omega arith) ∙ ap pos (omega arith)))
    (λ t.
    let l : k < epoch = leb-false _ _ t in
    let e : k + (2 ^ 63 - epoch) ≡ 2 ^ 63 - (epoch - k) = omega arith in
    simp t (ap unbiased e ∙ unbiased-less (epoch - k) (omega arith)))
