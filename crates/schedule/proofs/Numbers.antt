-- What the answers of crate `instant_signed` tell of the instants and durations that were read.
use mathlib.Core.Path.{◌≡◌, refl, sym, ap, ◌∙◌}
use mathlib.Core.Bool.{Bool, true, false, not, ◌&&◌, ◌||◌}
use Prim.Native.Nat.{ℕ, ◌+◌, ◌*◌, ◌/◌, ◌%◌, ◌^◌, ◌≤◌, ◌<◌}
use native.Mathlib.Omega.{arith}
use lib.Dec.{ltb}
use lib.IntN.{ℤ, pos, negsuc, nat_abs}
use mir.Syntax.{w64}
use mir.Val.{SFits, to_z, of_z}
use borrow.Author.Tests.{ltb-true}
use Rattle.laws_base.specs.Test.{by-test, and_both, clash, never}
use Rattle.model.specs.Answer.{gives, refuses}
use Rattle.model.specs.Instant as M
use Rattle.model.specs.Instant.{second, last_instant, is_below_0, are_opposite, duration_of, negated}
use Rattle.instant.specs.Instant.{nanos, InRange}
use Rattle.instant.specs.declared.Instant.{Instant}
use Rattle.instant_signed.specs.Signed.{by-bits₂}
use Rattle.instant_signed.specs.Durations.{duration_read, negated_read, negation}
use Rattle.std.specs.Prelude.{Option, Some, None, Result}
use Rattle.std.specs.Result.{is_err}
use Rattle.instant_signed.specs.Reads.{of_nanos}
use Rattle.instant_signed.specs.declared.SignedLength.{SignedLength}
use Rattle.instant_signed.specs.declared.Duration.{Duration}
use Rattle.instant_signed.specs.declared.DurationError.{DurationError}

-- ---- instants

pub not_late : (a : Instant) → InRange a → nanos a ≤ last_instant
not_late a h = let k = h.high in let n = h.ns in omega arith

-- ---- durations

abbrev is_duration : ℤ → ℤ → Bool
is_duration s n = ltb (nat_abs n) second && not (are_opposite s n)

abbrev size_of : ℤ → ℤ → ℕ
size_of s n = nat_abs s * second + nat_abs n

abbrev span : Bool → ℕ → M.Duration
span m d = record { minus = m; size = d }

-- the sign and the size that the definitions have
abbrev signed_of : ℤ → ℤ → SignedLength
signed_of s n = record { minus = is_below_0 s || is_below_0 n; length = of_nanos (size_of s n) }

no-span-read : (s n : ℤ) → duration_read (duration_of s n) ≡ None → duration_of s n ≡ refuses 9 0
unfolding duration_read duration_of
no-span-read s n e =
    by-test (is_duration s n)
    (λ t. let q : Some (signed_of s n) ≡ None = simp t at e in never (cc))
    (λ t. simp t)

-- seconds that are not below 0
plus-small : (s : ℤ) → SFits w64 s → (b : Bool) → (is_below_0 s || b) ≡ false → nat_abs s < 2 ^ 63
plus-small (pos k) f b e = f.sfits
plus-small (negsuc k) f b e = clash true refl e

-- a pair of seconds and nanoseconds is the duration of the sign m and the size a s, b ns
pub record Lasts (s n : ℤ) (m : Bool) (a b : ℕ) : Type 0 where
  pub means : duration_of s n ≡ gives (span m (a * second + b))
  pub rest : b < second
  pub short : m ≡ false → a < 2 ^ 63

span-read : (s n : ℤ) (d : SignedLength) → SFits w64 s → duration_read (duration_of s n) ≡ Some d → Lasts s n d.minus d.length.sec d.length.ns
unfolding duration_read duration_of
span-read s n d f e =
    by-test (is_duration s n)
    (λ t.
    let q : Some (signed_of s n) ≡ Some d = simp t at e in
    let r : signed_of s n ≡ d = cc in
    let x : (is_below_0 s || is_below_0 n) ≡ d.minus = ap (λ (v : SignedLength). v.minus) r in
    let y : size_of s n / second ≡ d.length.sec = ap (λ (v : SignedLength). v.length.sec) r in
    let z : size_of s n % second ≡ d.length.ns = ap (λ (v : SignedLength). v.length.ns) r in
    let k : nat_abs n < second = ltb-true _ _ (and_both (ltb (nat_abs n) second) (not (are_opposite s n)) t).0 in
    let w : size_of s n ≡ d.length.sec * second + d.length.ns = omega arith in
    record {
      means = simp t (λ i. gives (span (x i) (w i)));
      rest = omega arith;
      short = λ o. (let h = plus-small s f (is_below_0 n) (x ∙ o) in omega arith);
    })
    (λ t. let q : None ≡ Some d = simp t at e in never (cc))

pub span-most : (a b : ℕ) → b < second → a < 2 ^ 63 → a * second + b < 2 ^ 63 * second
span-most a b h k = omega arith

-- a duration that was read
module _ (s n : ℤ) (f : SFits w64 s) (g : SFits w64 n) {r : Option SignedLength} (e : r ≡ duration_read (duration_of (to_z w64 (of_z w64 s)) (to_z w64 (of_z w64 n)))) where
  pub span-no : r ≡ None → duration_of s n ≡ refuses 9 0
  span-no h = no-span-read s n (sym (by-bits₂ (λ a b. duration_read (duration_of a b)) f g e) ∙ h)

  pub span-yes : {d : SignedLength} → r ≡ Some d → Lasts s n d.minus d.length.sec d.length.ns
  span-yes {d} h = span-read s n d f (sym (by-bits₂ (λ a b. duration_read (duration_of a b)) f g e) ∙ h)

-- ---- the negation of a negative duration of d nanoseconds

module _ (s n : ℤ) (d : ℕ) (e : duration_of s n ≡ gives (span true d)) where
  negated-is : is_err (negation s n) ≡ false → (negated (span true d) ≡ gives (span false d)) × (d < 2 ^ 63 * second)
  unfolding negation negated_read negated
  negated-is h =
      by-test (ltb d (2 ^ 63 * second))
      (λ t. (simp t, ltb-true _ _ t))
      (λ t. let q : true ≡ false = simp (e, t) at h in never (cc))

  negated-not : is_err (negation s n) ≡ true → negated (span true d) ≡ refuses 7 0
  unfolding negation negated_read negated
  negated-not h =
      by-test (ltb d (2 ^ 63 * second))
      (λ t. let q : false ≡ true = simp (e, t) at h in never (cc))
      (λ t. simp t)

-- of a duration that was read
module _ (s n : ℤ) (f : SFits w64 s) (g : SFits w64 n) {m : Bool} {a b : ℕ} (l : Lasts s n m a b) (minus : m ≡ true)
    {r : Result Duration DurationError} (e : r ≡ negation (to_z w64 (of_z w64 s)) (to_z w64 (of_z w64 n))) where
  is-minus : duration_of s n ≡ gives (span true (a * second + b))
  is-minus = l.means ∙ ap (λ m. gives (span m (a * second + b))) minus

  pub negated-yes : is_err r ≡ false → (negated (span true (a * second + b)) ≡ gives (span false (a * second + b))) × (a * second + b < 2 ^ 63 * second)
  negated-yes h = negated-is s n (a * second + b) is-minus (sym (ap is_err (by-bits₂ negation f g e)) ∙ h)

  pub negated-no : is_err r ≡ true → negated (span true (a * second + b)) ≡ refuses 7 0
  negated-no h = negated-not s n (a * second + b) is-minus (sym (ap is_err (by-bits₂ negation f g e)) ∙ h)
