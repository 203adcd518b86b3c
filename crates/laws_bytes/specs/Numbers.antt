-- A program that reads the clock's answers by the rules of its queries has the numbers that were printed: `number_of` reads back what `shown`
-- prints, for every signed 64-bit number. Document 01: "Fields are decimal, minus allowed, one space apart."
use Rattle.std.specs.Prelude.{◌≡◌, Bool, true, not, ℕ, zero, suc, ◌+◌, ◌-◌, ◌/◌, ◌%◌, ◌^◌, ◌≤◌, ◌<◌, ltb, eqb, length, drop, ℤ, pos, negsuc, if◌then◌else◌}
use Rattle.std.proofs.Math.Path.{refl}
use Rattle.std.proofs.Common.{ap, ◌∙◌, not-suc-le-zero, arith, SFits}
use Rattle.std.proofs.Math.Bool.{false}
use Rattle.std.proofs.Math.Option.{some}
use mathlib.Core.List.{List, [], ◌∷◌, ◌++◌, map, append-nil}
use Rattle.std.specs.Int.{w64}
use borrow.Author.Tests.{ltb-true, lt-ltb, le-leb, ne_eqb}
use Rattle.model.specs.Basic.{is_in, all, each, joined}
use Rattle.model.specs.Lines.{fields_of, decimal_from, magnitude, number_of, digits_from, shown}
use Rattle.model.specs.Instant.{signed}
use Rattle.laws_base.specs.Test.{by-test, clash, in_bounds, within, all_head}

digit-passes : (n : ℕ) → n < 10 → is_in 48 57 (48 + n) ≡ true
digit-passes n h = within 48 57 (48 + n) (omega arith) (omega arith)

-- a digit is no byte below 48
digit-apart : (c m : ℕ) → is_in 48 57 c ≡ true → m < 48 → eqb c m ≡ false
digit-apart c m e h = ne_eqb c m (λ p. omega (arith, p, (in_bounds 48 57 c e).0))

-- the digits of n before l write n, and are digits
digits-write : (k n : ℕ) (l : List ℕ) → n < 10 ^ k → decimal_from 0 (digits_from k n l) ≡ decimal_from n l
unfolding digits_from decimal_from
digits-write zero n l h = ap (λ (m : ℕ). decimal_from m l) (omega arith)
digits-write (suc k) n l h =
    by-test (ltb n 10)
    (λ e. rw e (ap (λ (m : ℕ). decimal_from m l) (omega arith)))
    (λ e. rw e (digits-write k (n / 10) ((48 + n % 10) ∷ l) (omega arith) ∙ ap (λ (m : ℕ). decimal_from m l) (omega arith)))

digits-pass : (k n : ℕ) (l : List ℕ) → all (is_in 48 57) l ≡ true → all (is_in 48 57) (digits_from k n l) ≡ true
unfolding digits_from all
digits-pass zero n l h = h
digits-pass (suc k) n l h =
    by-test (ltb n 10)
    (λ e. rw (e, digit-passes n (ltb-true n 10 e)) h)
    (λ e. rw e (digits-pass k (n / 10) ((48 + n % 10) ∷ l) (rw (digit-passes (n % 10) (omega arith)) h)))

-- they are at least one
digits-some : (k n : ℕ) (l : List ℕ) → length l ≤ length (digits_from k n l)
unfolding digits_from
digits-some zero n l = omega arith
digits-some (suc k) n l =
    by-test (ltb n 10)
    (λ e. rw e (omega arith))
    (λ e. rw e (let h : length ((48 + n % 10) ∷ l) ≤ length (digits_from k (n / 10) ((48 + n % 10) ∷ l)) = digits-some k (n / 10) ((48 + n % 10) ∷ l) in omega arith))

digits_more : (k n : ℕ) (l : List ℕ) → 0 < length (digits_from (suc k) n l)
unfolding digits_from
digits_more k n l =
    by-test (ltb n 10)
    (λ e. rw e (omega arith))
    (λ e. rw e (let h : length ((48 + n % 10) ∷ l) ≤ length (digits_from k (n / 10) ((48 + n % 10) ∷ l)) = digits-some k (n / 10) ((48 + n % 10) ∷ l) in omega arith))

-- digits are no minus
plain : (s : List ℕ) → all (is_in 48 57) s ≡ true → 0 < length s → number_of s ≡ magnitude false s
unfolding number_of
plain [] h k = absurd (not-suc-le-zero k)
plain (c ∷ s) h k = rw (digit-apart c 45 (all_head (is_in 48 57) c s h).0 (omega arith))

-- the digits of n as a field, with a minus or without
read-digits : (minus : Bool) (n : ℕ) → n ≤ (if minus then 2 ^ 63 else 2 ^ 63 - 1) → magnitude minus (digits_from 20 n []) ≡ some (signed minus n)
unfolding magnitude
read-digits minus n h =
    let b : n ≤ 2 ^ 63 = by-test minus (λ e. rw e at h) (λ e. let k : n ≤ 2 ^ 63 - 1 = rw e at h in omega arith) in
    let w : decimal_from 0 (digits_from 20 n []) ≡ n = digits-write 20 n [] (omega arith) ∙ unfold decimal_from in refl in
    rw (w, lt-ltb 0 (length (digits_from 20 n [])) (digits_more 19 n []), digits-pass 20 n [] (unfold all in refl), le-leb _ _ h)

-- the field that `shown` prints behind its space
abbrev pub field : ℤ → List ℕ
field z = drop 1 (shown z)

pub spaced : (z : ℤ) → shown z ≡ 32 ∷ field z
unfolding shown
spaced (pos n) = refl
spaced (negsuc n) = refl

-- it is read back
pub read_back : (z : ℤ) → SFits w64 z → number_of (field z) ≡ some z
unfolding shown number_of
read_back (pos n) f = plain (digits_from 20 n []) (digits-pass 20 n [] (unfold all in refl)) (digits_more 19 n []) ∙ read-digits false n (omega (arith, f.sfits))
read_back (negsuc n) f = read-digits true (suc n) f.sfits

-- ---- a line of them

abbrev pub no_space : List ℕ → Bool
no_space s = all (λ c. not (eqb c 32)) s

-- a field before the rest of a line
front : (w s x : List ℕ) (xs : List (List ℕ)) → no_space w ≡ true → fields_of s ≡ x ∷ xs → fields_of (w ++ s) ≡ (w ++ x) ∷ xs
unfolding fields_of all
front [] s x xs h e = e
front (c ∷ w) s x xs h e =
    by-test (eqb c 32)
    (λ p. clash false (rw p at h) refl)
    (λ p. rw (p, front w s x xs (rw p at h) e))

no-spaces : (s : List ℕ) → all (is_in 48 57) s ≡ true → no_space s ≡ true
unfolding all
no-spaces [] h = refl
no-spaces (c ∷ s) h = let p = all_head (is_in 48 57) c s h in rw (digit-apart c 32 p.0 (omega arith)) (no-spaces s p.1)

field-spaces : (z : ℤ) → no_space (field z) ≡ true
unfolding shown all
field-spaces (pos n) = no-spaces (digits_from 20 n []) (digits-pass 20 n [] refl)
field-spaces (negsuc n) = no-spaces (digits_from 20 (suc n) []) (digits-pass 20 (suc n) [] refl)

-- the numbers behind a word are its fields
pub line-fields : (w : List ℕ) (l : List ℤ) → no_space w ≡ true → fields_of (w ++ joined (map shown l)) ≡ w ∷ map field l
unfolding fields_of joined
line-fields w [] h = front w [] [] [] h refl ∙ rw append-nil
line-fields w (z ∷ l) h = front w (shown z ++ joined (map shown l)) [] (map field (z ∷ l)) h (rw (spaced z, line-fields (field z) l (field-spaces z))) ∙ rw append-nil

-- all are signed 64-bit numbers
abbrev pub Fit : List ℤ → Type 0
Fit [] = Unit {0}
Fit (z ∷ l) = SFits w64 z × Fit l

-- they are read back
pub line-back : (l : List ℤ) → Fit l → each number_of (map field l) ≡ some l
unfolding each
line-back [] f = refl
line-back (z ∷ l) f = rw (read_back z f.0, line-back l f.1)
