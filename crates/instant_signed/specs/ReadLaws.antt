-- Each answer of the functions on instants, from what the code has tested.
use Rattle.std.specs.Prelude.{◌≡◌, refl, Bool, true, false, not, ◌&&◌, ℕ, ◌+◌, ◌*◌, ◌/◌, ◌%◌, ◌≤◌, ◌<◌, leb, ltb, ℤ, pos, negsuc, nat_abs, ◌+ℤ◌, ◌≤ℤ◌, ◌<ℤ◌, Some, None}
use Rattle.std.proofs.Common.{ap, arith, leb-true, ltb-true, le-leb, lt-ltb}
use Rattle.std.proofs.lemmas.Int.{ints}
use Rattle.model.specs.Basic.{is_in}
use Rattle.model.specs.Instant.{epoch, second, first_instant, last_instant, is_below_0, second_from, instant_of, first_second, last_second}
use Rattle.laws_base.specs.Test.{by-test, and_both, both-and, not-true, true-not, clash}
use Rattle.instant.specs.declared.Instant.{Instant}
use Rattle.instant_signed.specs.Reads.{of_nanos, instant_read}

-- an instant is known by its seconds and the rest
pub parts : (n s t : ℕ) → t < second → s * second + t ≡ n → ◌≡◌ {A = Instant} (record { sec = s; ns = t }) (of_nanos n)
parts n s t h e = λ i. record { sec = p i; ns = q i }
  where
    p : s ≡ n / second
    p = omega arith

    q : t ≡ n % second
    q = omega arith

-- the seconds from 1970 and the nanoseconds of an instant
pub record IsInstant (s n : ℤ) : Type 0 where
  pub from : negsuc 377705023200 ≤ℤ s
  pub to : s ≤ℤ pos 253402207200
  pub least : pos 0 ≤ℤ n
  pub most : n <ℤ pos second

second-is : (s : ℤ) → negsuc 377705023200 ≤ℤ s → s +ℤ pos epoch ≡ pos (second_from s)
second-is (pos n) h = omega (arith, ints)
second-is (negsuc n) h = omega (arith, ints)

second-back : (s : ℤ) → first_second ≤ second_from s → second_from s ≤ last_second → (negsuc 377705023200 ≤ℤ s) × (s ≤ℤ pos 253402207200)
second-back (pos n) a b = (omega (arith, ints), omega (arith, ints))
second-back (negsuc n) a b = (omega (arith, ints), omega (arith, ints))

rest-is : (n : ℤ) → pos 0 ≤ℤ n → (is_below_0 n ≡ false) × (n ≡ pos (nat_abs n))
rest-is (pos n) h = (refl, refl)
rest-is (negsuc n) h = absurd (omega (arith, ints))

rest-back : (n : ℤ) → is_below_0 n ≡ false → n ≡ pos (nat_abs n)
rest-back (pos n) e = refl
rest-back (negsuc n) e = clash true refl e

-- the seconds, and the nanoseconds, that an instant may have
abbrev pub is_second : ℤ → Bool
is_second s = is_in (first_instant / second) (last_instant / second) (second_from s)

abbrev pub is_rest : ℤ → Bool
is_rest n = not (is_below_0 n) && ltb (nat_abs n) second

told : (s n : ℤ) → (is_second s && is_rest n) ≡ true → IsInstant s n
told s n e =
    let p = and_both (is_second s) (is_rest n) e in
    let q = and_both (leb first_second (second_from s)) (leb (second_from s) last_second) p.0 in
    let r = and_both (not (is_below_0 n)) (ltb (nat_abs n) second) p.1 in
    let k = second-back s (leb-true _ _ q.0) (leb-true _ _ q.1) in
    let c : nat_abs n < second = ltb-true _ _ r.1 in
    let d = rest-back n (not-true _ r.0) in
    record { from = k.0; to = k.1; least = omega (arith, ints); most = omega (arith, ints) }

passes : (s n : ℤ) → IsInstant s n → (is_second s && is_rest n) ≡ true
passes s n v =
    let k = second-is s v.from in
    let d = rest-is n v.least in
    let a : first_second ≤ second_from s = omega (arith, ints) in
    let b : second_from s ≤ last_second = omega (arith, ints) in
    let c : nat_abs n < second = omega (arith, ints) in
    both-and (is_second s) (is_rest n)
    (both-and (leb first_second (second_from s)) (leb (second_from s) last_second) (le-leb _ _ a) (le-leb _ _ b))
    (both-and (not (is_below_0 n)) (ltb (nat_abs n) second) (true-not _ d.0) (lt-ltb _ _ c))

pub read-no : (s n : ℤ) → (IsInstant s n → ⊥) → None ≡ instant_read (instant_of s n)
unfolding instant_read instant_of
read-no s n h = by-test (is_second s && is_rest n) (λ e. absurd (h (told s n e))) (λ e. simp e)

pub read-yes : (s n : ℤ) (a b : ℕ) → IsInstant s n → pos a ≡ s +ℤ pos epoch → pos b ≡ n → Some (record { sec = a; ns = b }) ≡ instant_read (instant_of s n)
unfolding instant_read instant_of
read-yes s n a b v d e =
    let k = second-is s v.from in
    let m = rest-is n v.least in
    simp (passes s n v) (ap Some (parts (second_from s * second + nat_abs n) a b (omega (arith, ints)) (omega (arith, ints))))
