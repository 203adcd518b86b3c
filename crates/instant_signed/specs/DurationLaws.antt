-- Each answer of the functions on durations, from what the code has tested, and what is written of an instant or a duration.
use Rattle.std.specs.Prelude.{◌≡◌, refl, Bool, true, false, not, ◌&&◌, ◌||◌, [], ◌∷◌, ℕ, suc, ◌+◌, ◌*◌, ◌/◌, ◌%◌, ◌^◌, ◌≤◌, ◌<◌, ltb, eqb, ℤ, pos, negsuc, nat_abs, ◌≤ℤ◌, ◌<ℤ◌, ◌⊎◌, Some, None, Result, Ok, Err}
use Rattle.std.proofs.Common.{sym, ap, ◌∙◌, ⊎_elim, arith, SFits}
use Rattle.std.proofs.lemmas.Int.{ints}
use Rattle.std.specs.Int.{w64}
use Rattle.std.specs.Int.Signed.{lt_z}
use borrow.Author.Tests.{ltb-true, ltb-false, le-leb, lt-leb, lt-ltb, le-ltb, eq-eqb, ne_eqb}
use Rattle.model.specs.Instant as M
use Rattle.model.specs.Instant.{epoch, second, is_below_0, are_opposite, duration_of, negated}
use Rattle.laws_base.specs.Test.{by-test, and_both, clash, never}
use Rattle.instant_signed.specs.Reads.{of_nanos}
use Rattle.instant_signed.specs.Durations.{signed_pair, duration_read, fitting_pair, negated_read, negation}
use Rattle.instant_signed.specs.declared.Duration.{Duration}
use Rattle.instant_signed.specs.declared.SignedLength.{SignedLength}
use Rattle.instant_signed.specs.declared.DurationError.{DurationError}
use Rattle.instant_signed.specs.declared.DurationError.TheVariants.{OutOfRange, Malformed}

-- ---- signs

abs-most : (z : ℤ) → SFits w64 z → nat_abs z ≤ 2 ^ 63
abs-most (pos n) f = omega (arith, f.sfits)
abs-most (negsuc n) f = f.sfits

below-0 : (z : ℤ) → lt_z z (pos 0) ≡ is_below_0 z
below-0 (pos n) = grind arith
below-0 (negsuc n) = refl

nothing : (a b : Bool) → (a && (b && false)) ≡ false
nothing true true = refl
nothing true false = refl
nothing false b = refl

nothing' : (a : Bool) → (a && false) ≡ false
nothing' true = refl
nothing' false = refl

-- one of the two is below 0
abbrev pub has_minus : ℤ → ℤ → Bool
has_minus s n = is_below_0 s || is_below_0 n

-- the code's tests
module _ {m : Bool} (s n : ℤ) where
  pub minus-first : m ≡ lt_z s (pos 0) → lt_z s (pos 0) ≡ true → m ≡ has_minus s n
  minus-first p q = let e = below-0 s in let h : is_below_0 s ≡ true = cc in p ∙ q ∙ simp h

  pub minus-second : m ≡ lt_z n (pos 0) → lt_z s (pos 0) ≡ false → m ≡ has_minus s n
  minus-second p q = let e = below-0 s in let h : is_below_0 s ≡ false = cc in p ∙ below-0 n ∙ simp h

opposite : (s n : ℤ) → has_minus s n ≡ true → (pos 0 <ℤ s) ⊎ (pos 0 <ℤ n) → are_opposite s n ≡ true
opposite (pos s) (pos n) e h = clash false e refl
opposite (pos s) (negsuc n) e h = ⊎_elim (λ x. simp (ne_eqb s 0 (λ z. omega (arith, ints)), ne_eqb (suc n) 0 (λ z. omega arith))) (λ y. absurd (omega (arith, ints))) h
opposite (negsuc s) (pos n) e h = ⊎_elim (λ x. absurd (omega (arith, ints))) (λ y. simp (ne_eqb n 0 (λ z. omega (arith, ints)), ne_eqb (suc s) 0 (λ z. omega arith))) h
opposite (negsuc s) (negsuc n) e h = ⊎_elim (λ x. absurd (omega (arith, ints))) (λ y. absurd (omega (arith, ints))) h

alike : (s n : ℤ) → (has_minus s n ≡ true → (s ≤ℤ pos 0) × (n ≤ℤ pos 0)) → are_opposite s n ≡ false
alike (pos s) (pos n) h = nothing (not (eqb s 0)) (not (eqb n 0))
alike (pos s) (negsuc n) h = let x = (h refl).0 in simp (eq-eqb s 0 (omega (arith, ints)))
alike (negsuc s) (pos n) h = let x = (h refl).1 in simp (eq-eqb n 0 (omega (arith, ints))) (nothing' (not (eqb (suc s) 0)))
alike (negsuc s) (negsuc n) h = nothing (not (eqb (suc s) 0)) (not (eqb (suc n) 0))

-- ---- the sign and the size of a duration

module _ (s n : ℤ) where
  pub too_long : second ≤ nat_abs n → None ≡ duration_read (duration_of s n)
  unfolding duration_read duration_of
  too_long h = simp (le-ltb (nat_abs n) second h)

  pub opposed : nat_abs n < second → has_minus s n ≡ true → (pos 0 <ℤ s) ⊎ (pos 0 <ℤ n) → None ≡ duration_read (duration_of s n)
  unfolding duration_read duration_of
  opposed h e o = simp (lt-ltb (nat_abs n) second h, opposite s n e o)

  pub is-span :
      {m : Bool} {a b : ℕ} → nat_abs n < second → m ≡ has_minus s n → (m ≡ true → (s ≤ℤ pos 0) × (n ≤ℤ pos 0)) → a ≡ nat_abs s → b ≡ nat_abs n →
      Some (record { minus = m; length = record { sec = a; ns = b } }) ≡ duration_read (duration_of s n)
  unfolding duration_read duration_of
  is-span {m} {a} {b} h e o p q = simp (lt-ltb (nat_abs n) second h, alike s n (λ k. o (e ∙ k))) (λ i. Some (record { minus = e i; length = record { sec = x i; ns = y i } }))
    where
      x : a ≡ (nat_abs s * second + nat_abs n) / second
      x = omega arith

      y : b ≡ (nat_abs s * second + nat_abs n) % second
      y = omega arith

-- ---- from a sign and a size

pub same-pair : {a b c d : ℤ} → a ≡ b → c ≡ d → ◌≡◌ {A = Duration} (record { secs = a; nanos = c }) (record { secs = b; nanos = d })
same-pair p q = λ i. record { secs = p i; nanos = q i }

module _ (m : Bool) (s n : ℕ) where
  pub fit-rest : second ≤ n → Err Malformed ≡ fitting_pair m s n
  unfolding fitting_pair
  fit-rest h = simp (le-ltb n second h)

  pub fit-far : n < second → 2 ^ 63 < s → Err OutOfRange ≡ fitting_pair m s n
  unfolding fitting_pair
  fit-far h k =
      by-test m (λ e. simp (lt-ltb n second h, e, lt-leb s (2 ^ 63) k)) (λ e. simp (lt-ltb n second h, e, le-ltb s (2 ^ 63) (omega arith)))

  pub fit-out : n < second → m ≡ false → 2 ^ 63 ≤ s → Err OutOfRange ≡ fitting_pair m s n
  unfolding fitting_pair
  fit-out h e k = simp (lt-ltb n second h, e, le-ltb s (2 ^ 63) k)

  pub fit-minus : (d : Duration) → n < second → m ≡ true → s ≤ 2 ^ 63 → d ≡ signed_pair true s n → Ok d ≡ fitting_pair m s n
  unfolding fitting_pair
  fit-minus d h e k q = simp (lt-ltb n second h, e, le-leb s (2 ^ 63) k) (ap Ok q)

  pub fit-plus : (d : Duration) → n < second → m ≡ false → s < 2 ^ 63 → d ≡ signed_pair false s n → Ok d ≡ fitting_pair m s n
  unfolding fitting_pair
  fit-plus d h e k q = simp (lt-ltb n second h, e, lt-ltb s (2 ^ 63) k) (ap Ok q)

-- ---- negation

abbrev dur : Bool → ℕ → M.Duration
dur m z = record { minus = m; size = z }

neg-fits : (m : Bool) (z : ℕ) → z / second ≤ 2 ^ 63 → fitting_pair (not m) (z / second) (z % second) ≡ negated_read (negated (dur m z))
unfolding fitting_pair negated_read negated
neg-fits true z h =
    by-test (ltb z (2 ^ 63 * second))
    (λ t.
    let l : z < 2 ^ 63 * second = ltb-true _ _ t in
    simp (t, lt-ltb (z % second) second (omega arith), lt-ltb (z / second) (2 ^ 63) (omega arith)))
    (λ t.
    let l : 2 ^ 63 * second ≤ z = ltb-false _ _ t in
    simp (t, lt-ltb (z % second) second (omega arith), le-ltb (z / second) (2 ^ 63) (omega arith)))
neg-fits false z h =
    by-test (ltb 0 z)
    (λ t. simp (t, lt-ltb (z % second) second (omega arith), le-leb (z / second) (2 ^ 63) h))
    (λ t.
    let e : z ≡ 0 = omega (arith, ltb-false 0 z t) in
    rw e)

abbrev is_duration : ℤ → ℤ → Bool
is_duration s n = ltb (nat_abs n) second && not (are_opposite s n)

-- the sign and the size that the definitions have
abbrev span_of : ℤ → ℤ → SignedLength
span_of s n = record { minus = has_minus s n; length = of_nanos (nat_abs s * second + nat_abs n) }

pub negate-no : (s n : ℤ) → duration_read (duration_of s n) ≡ None → Err Malformed ≡ negation s n
unfolding duration_read duration_of negation negated_read
negate-no s n e =
    by-test (is_duration s n)
    (λ t. let q : Some (span_of s n) ≡ None = simp t at e in never (cc))
    (λ t. simp t)

pub negate-yes :
    (s n : ℤ) (x : SignedLength) {r : Result Duration DurationError} → SFits w64 s → duration_read (duration_of s n) ≡ Some x → r ≡ fitting_pair (not x.minus) x.length.sec x.length.ns → r ≡ negation s n
unfolding duration_read duration_of negation
negate-yes s n x {r} f e h =
    by-test (is_duration s n)
    (λ t.
    let q : Some (span_of s n) ≡ Some x = simp t at e in
    let y : span_of s n ≡ x = cc in
    let k : nat_abs n < second = ltb-true _ _ (and_both (ltb (nat_abs n) second) (not (are_opposite s n)) t).0 in
    let l : nat_abs s ≤ 2 ^ 63 = abs-most s f in
    simp t (h ∙ sym (ap (λ (v : SignedLength). fitting_pair (not v.minus) v.length.sec v.length.ns) y) ∙ neg-fits (has_minus s n) (nat_abs s * second + nat_abs n) (omega arith)))
    (λ t. let q : None ≡ Some x = simp t at e in never (cc))

-- ---- written back

-- the numbers of a duration that was made of a sign and a size
pub duration-written : (m : Bool) (a b : ℕ) (d : Duration) {x y : ℤ} → b < second → d ≡ signed_pair m a b → x ≡ d.secs → y ≡ d.nanos → x ∷ y ∷ [] ≡ M.duration (dur m (a * second + b))
unfolding M.duration
duration-written m a b d h e p q =
    let u : (a * second + b) / second ≡ a = omega arith in
    let v : (a * second + b) % second ≡ b = omega arith in
    rw (p, q, e, u, v)
