-- What the answers on instants say: an instant that was read, one that was refused, and one that is written.
use Rattle.std.specs.Prelude.{◌≡◌, not, ◌&&◌, [], ◌∷◌, ℕ, ◌+◌, ◌*◌, ◌/◌, ◌%◌, ◌≤◌, ◌<◌, leb, ltb, ℤ, pos, nat_abs, Option, Some, None}
use Rattle.std.proofs.Common.{sym, ap, ◌∙◌, arith, SFits, to_z, of_z, leb-true, ltb-true}
use Rattle.std.specs.Int.{w64}
use Rattle.model.specs.Answer.{gives, refuses}
use Rattle.model.specs.Instant.{second, is_below_0, second_from, instant_of, instant, first_second, last_second}
use Rattle.laws_base.specs.Test.{by-test, and_both, never}
use Rattle.instant.specs.Instant.{nanos, InRange}
use Rattle.instant.specs.declared.Instant.{Instant}
use Rattle.instant_signed.specs.Signed.{by-bits₂}
use Rattle.instant_signed.specs.Reads.{of_nanos, instant_read, seconds_from}
use Rattle.instant_signed.specs.ReadLaws.{is_second, is_rest}

-- ---- an instant read

-- a pair of seconds and nanoseconds is the instant t
pub record ReadsInstant (s n : ℤ) (t : Instant) : Type 0 where
  pub means : instant_of s n ≡ gives (nanos t)
  pub in-range : InRange t

pub instant-read : (s n : ℤ) (t : Instant) → instant_read (instant_of s n) ≡ Some t → ReadsInstant s n t
unfolding instant_read instant_of
instant-read s n t e =
    by-test (is_second s && is_rest n)
    (λ b.
    let q : Some (of_nanos (second_from s * second + nat_abs n)) ≡ Some t = simp b at e in
    let r : of_nanos (second_from s * second + nat_abs n) ≡ t = cc in
    let x : (second_from s * second + nat_abs n) / second ≡ t.sec = ap (λ (i : Instant). i.sec) r in
    let y : (second_from s * second + nat_abs n) % second ≡ t.ns = ap (λ (i : Instant). i.ns) r in
    let p = and_both (is_second s) (is_rest n) b in
    let u = and_both (leb first_second (second_from s)) (leb (second_from s) last_second) p.0 in
    let l : first_second ≤ second_from s = leb-true _ _ u.0 in
    let k : second_from s ≤ last_second = leb-true _ _ u.1 in
    let h : nat_abs n < second = ltb-true _ _ (and_both (not (is_below_0 n)) (ltb (nat_abs n) second) p.1).1 in
    let z : second_from s * second + nat_abs n ≡ nanos t = omega arith in
    record { means = simp b (ap gives z); in-range = record { low = omega arith; high = omega arith; ns = omega arith } })
    (λ b. let q : None ≡ Some t = simp b at e in never (cc))

-- an instant is refused with 8 only
pub instant-refused : (s n : ℤ) → instant_read (instant_of s n) ≡ None → instant_of s n ≡ refuses 8 0
unfolding instant_read instant_of
instant-refused s n e =
    by-test (is_second s && is_rest n)
    (λ b. let q : Some (of_nanos (second_from s * second + nat_abs n)) ≡ None = simp b at e in never (cc))
    (λ b. simp b)

-- ---- an instant read from numbers of 64 bits

module _ (s n : ℤ) (f : SFits w64 s) (g : SFits w64 n) {r : Option Instant} (e : r ≡ instant_read (instant_of (to_z w64 (of_z w64 s)) (to_z w64 (of_z w64 n)))) where
  pub instant-no : r ≡ None → instant_of s n ≡ refuses 8 0
  instant-no h = instant-refused s n (sym (by-bits₂ (λ a b. instant_read (instant_of a b)) f g e) ∙ h)

  pub instant-yes : {t : Instant} → r ≡ Some t → ReadsInstant s n t
  instant-yes {t} h = instant-read s n t (sym (by-bits₂ (λ a b. instant_read (instant_of a b)) f g e) ∙ h)

-- ---- an instant written

-- its seconds, counted from 1970, and its nanoseconds
pub instant-written : (t : Instant) (n : ℕ) {a b : ℤ} → t.ns < second → nanos t ≡ n → a ≡ seconds_from t.sec → b ≡ pos t.ns → a ∷ b ∷ [] ≡ instant n
unfolding instant seconds_from
instant-written t n h e p q =
    let x : n / second ≡ t.sec = omega arith in
    let y : n % second ≡ t.ns = omega arith in
    rw (x, y, p, q)
