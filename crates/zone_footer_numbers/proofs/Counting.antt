-- The digits of a number, one by one: a law for each way through a step.
use mathlib.Core.Path.{◌≡◌, refl, sym, ◌∙◌}
use mathlib.Core.Bool.{false}
use mathlib.Core.Option.{some}
use mathlib.Core.List.{List, [], ◌∷◌}
use Prim.Native.Nat.{ℕ, zero, suc, ◌+◌, ◌*◌, ◌-◌, ◌^◌, ◌≤◌, ◌<◌, min}
use native.Mathlib.Decide.{dec_le}
use native.Mathlib.Omega.{arith}
use lib.ListN.{length, get_or, drop}
use borrow.Author.Tests.{le-leb}
use Rattle.model.specs.Footer.{is_digit, digits}
use Rattle.std.proofs.lemmas.List.{drop_all, drop_more}

-- the most that three digits make where so many are left to read
abbrev pub limit : ℕ → ℕ
limit zero = 999
limit (suc zero) = 99
limit (suc (suc zero)) = 9
limit (suc (suc (suc n))) = 0

limit-all : (l : ℕ) → limit l ≤ 999
limit-all zero = omega arith
limit-all (suc zero) = omega arith
limit-all (suc (suc zero)) = omega arith
limit-all (suc (suc (suc n))) = omega arith

limit-step : (l n d : ℕ) → 0 < l → l ≤ 3 → n ≤ limit l → d ≤ 9 → n * 10 + d ≤ limit (l - 1)
limit-step zero n d p f h e = omega arith
limit-step (suc zero) n d p f h e = omega arith
limit-step (suc (suc zero)) n d p f h e = omega arith
limit-step (suc (suc (suc zero))) n d p f h e = omega arith
limit-step (suc (suc (suc (suc l)))) n d p f h e = omega arith

digits-empty : (l n : ℕ) → digits l n [] ≡ some (n, [])
unfolding digits
digits-empty zero n = refl
digits-empty (suc l) n = refl

digits-full : (l n : ℕ) (s : List ℕ) → l ≡ 0 → digits l n s ≡ some (n, s)
unfolding digits
digits-full l n s e = rw e

digits-other : (l n b : ℕ) (s : List ℕ) → is_digit b ≡ false → digits l n (b ∷ s) ≡ some (n, b ∷ s)
unfolding digits
digits-other zero n b s e = refl
digits-other (suc l) n b s e = rw e

digits-next : (l n b : ℕ) (s : List ℕ) → 0 < l → 48 ≤ b → b ≤ 57 → digits l n (b ∷ s) ≡ digits (l - 1) (n * 10 + (b - 48)) s
unfolding digits
digits-next zero n b s h p q = absurd (omega arith)
digits-next (suc l) n b s h p q = let y : suc l - 1 ≡ l = omega arith in rw (y, le-leb 48 b p, le-leb b 57 q)

-- n is what the digits from the place `at` up to i make, of k at most
pub record Counting (s : List ℕ) (at k n i : ℕ) : Type 0 where
  pub same : digits (at + k - i) n (drop i s) ≡ digits k 0 (drop at s)
  pub small : n ≤ limit (at + k - i)
  pub few : k ≤ 3
  pub past : at ≤ i

pub count-begins : (s : List ℕ) (at k : ℕ) → k ≤ 3 → Counting s at k 0 at
count-begins s at k h = let e : at + k - at ≡ k = omega arith in record { same = rw e; small = omega arith; few = h; past = omega arith }

module _ {s : List ℕ} {at k n i : ℕ} (m : Counting s at k n i) where
  pub count_small : n ≤ 999
  count_small = omega (arith, limit-all (at + k - i), m.small)

  -- no digit is left to read, or no byte
  pub count-end : {e : ℕ} → e ≡ min (min (at + k) (2 ^ 64 - 1)) (length s) → length s < 2 ^ 64 → e ≤ i → (at ≤ e → i ≤ e) → some (n, drop e s) ≡ digits k 0 (drop at s)
  count-end {e} q w h g = go (dec_le (length s) e)
    where
      go : Dec (length s ≤ e) → some (n, drop e s) ≡ digits k 0 (drop at s)
      go (yes y) = let z = (rw (drop_all i s (omega (arith, m.past))) at m.same) in rw (drop_all e s y) (sym (digits-empty (at + k - i) n) ∙ z)
      go (no y) = let z : i ≡ e = omega (arith, m.past) in rw (← z) (sym (digits-full (at + k - i) n (drop i s) (omega arith)) ∙ m.same)

  module _ {b : ℕ} (h : i < length s) (e : b ≡ get_or s i 0) where
    shown : digits (at + k - i) n (b ∷ drop (i + 1) s) ≡ digits k 0 (drop at s)
    shown = rw e (rw (drop_more s i 0 h) at m.same)

    pub count-stop : is_digit b ≡ false → some (n, drop i s) ≡ digits k 0 (drop at s)
    count-stop q = rw (drop_more s i 0 h, ← e) (sym (digits-other (at + k - i) n b (drop (i + 1) s) q) ∙ shown)

    pub count-on : {d : ℕ} → i < at + k → 48 ≤ b → b ≤ 57 → d ≡ b - 48 → Counting s at k (n * 10 + d) (i + 1)
    count-on {d} l p q f =
        let left : at + k - (i + 1) ≡ at + k - i - 1 = omega arith in
        record {
          same = rw (left, f) (sym (digits-next (at + k - i) n b (drop (i + 1) s) (omega arith) p q) ∙ shown);
          small = rw left (limit-step (at + k - i) n d (omega arith) (omega (arith, m.few, m.past)) m.small (omega arith));
          few = m.few;
          past = omega (arith, m.past);
        }
