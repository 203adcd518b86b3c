-- Laws of bytes written at a place, and of digits.
use mathlib.Core.Path.{◌≡◌, refl, sym, ap, ◌∙◌}
use mathlib.Core.List.{List, [], ◌∷◌, ◌++◌, append_assoc, append-nil}
use Prim.Native.Nat.{ℕ, zero, suc, ◌+◌, ◌*◌, ◌-◌, ◌/◌, ◌%◌, ◌^◌, ◌≤◌, ◌<◌}
use native.Mathlib.Omega.{arith}
use native.Mathlib.Nat.{pow-suc}
use native.Mathlib.Numerals.{add-one}
use lib.Dec.{ltb}
use lib.IntN.{ℤ, pos, negsuc}
use mir.Syntax.{w64}
use mir.Val.{SFits}
use mathlib.Core.Option.{none, some}
use Rattle.instant_signed.specs.Signed.{biased, biased-plus, biased-minus}
use Rattle.model.specs.Bytes.{text}
use Rattle.model.specs.Answer.{gives, refuses}
use lib.ListN.{length, take, drop, set, length-append}
use lib.Seq.{set_split, append_snoc, take_at, drop_at, drop-drop, length-take-le}
use borrow.Author.Tests.{lt-ltb, le-ltb}
use Rattle.model.specs.Basic.{joined}
use Rattle.model.specs.Lines.{Count, digits_from, shown, printed}
use Rattle.laws_base.specs.Test.{by-test}
use Rattle.answer_line.specs.Placed.{Placed, exactly, two}

-- ---- writing

-- one byte
pub placed_one : (old : List ℕ) (at b : ℕ) → at < length old → Placed old (set old at b) at (at + 1) (b ∷ [])
placed_one old at b h = record { behind = refl; bytes = set_split old at b h ∙ sym (append_snoc (take at old) b (drop (suc at) old)) ∙ ap (λ k. take at old ++ (b ∷ []) ++ drop k old) (sym (add-one at)) }

-- one text behind another
pub placed-more : (old mid new : List ℕ) (at e r : ℕ) (s t : List ℕ) → at ≤ length old → Placed old mid at e s → Placed mid new e r t → Placed old new at r (s ++ t)
placed-more old mid new at e r s t h p q =
    record {
      behind = rw (length-append s t) (omega (arith, p.behind, q.behind));
      bytes = q.bytes ∙ rw (a, b) (ap (λ l. l ++ drop r old) (append_assoc (take at old) s t));
    }
  where
    l : length (take at old ++ s) ≡ e
    l = length-append (take at old) s ∙ rw (length-take-le at old h) (sym p.behind)

    a : take e mid ≡ take at old ++ s
    a = ap (take e) p.bytes ∙ take_at (take at old ++ s) (drop e old) e l

    d : drop e mid ≡ drop e old
    d = ap (drop e) p.bytes ∙ drop_at (take at old ++ s) (drop e old) e l

    b : drop r mid ≡ drop r old
    b = rw (q.behind, ← drop-drop (length t) e mid, ← drop-drop (length t) e old, d)

-- ---- digits

digits_more : (k n : ℕ) (l : List ℕ) → digits_from k n l ≡ digits_from k n [] ++ l
unfolding digits_from
digits_more zero n l = refl
digits_more (suc k) n l =
    by-test (ltb n 10) (λ e. rw e)
    (λ e. rw e (digits_more k (n / 10) ((48 + n % 10) ∷ l) ∙ sym (rw (digits_more k (n / 10) ((48 + n % 10) ∷ []), append_assoc))))

-- one step more changes nothing where the steps suffice
digits-enough : (k n : ℕ) (l : List ℕ) → n < 10 ^ suc k → digits_from (suc k) n l ≡ digits_from (suc (suc k)) n l
unfolding digits_from
digits-enough zero n l h = rw (lt-ltb n 10 h)
digits-enough (suc k) n l h =
    by-test (ltb n 10) (λ e. rw e)
    (λ e. rw e (digits-enough k (n / 10) ((48 + n % 10) ∷ l) (less (10 ^ suc k) (rw (pow-suc 10 (suc k)) at h))))
  where
    less : (p : ℕ) → n < p * 10 → n / 10 < p
    less p h = omega arith

digits-small : (n : ℕ) → n < 10 → digits_from 20 n [] ≡ (48 + n) ∷ []
unfolding digits_from
digits-small n h = rw (lt-ltb n 10 h)

digits-large : (n : ℕ) → 10 ≤ n → digits_from 20 n [] ≡ digits_from 19 (n / 10) ((48 + n % 10) ∷ [])
unfolding digits_from
digits-large n h = rw (le-ltb n 10 h)

pub digits_last : (n : ℕ) → 10 ≤ n → n < 18446744073709551616 → digits_from 20 n [] ≡ digits_from 20 (n / 10) [] ++ ((48 + n % 10) ∷ [])
digits_last n h k =
    let e : digits_from 19 (n / 10) [] ≡ digits_from 20 (n / 10) [] = digits-enough 18 (n / 10) [] (omega arith) in
    digits-large n h ∙ digits_more 19 (n / 10) ((48 + n % 10) ∷ []) ∙ rw e

digits-length : (k n : ℕ) (l : List ℕ) → length (digits_from k n l) ≤ k + length l
unfolding digits_from
digits-length zero n l = omega arith
digits-length (suc k) n l =
    by-test (ltb n 10) (λ e. rw e (omega arith))
    (λ e. let h : length (digits_from k (n / 10) ((48 + n % 10) ∷ l)) ≤ k + length ((48 + n % 10) ∷ l) = digits-length k (n / 10) ((48 + n % 10) ∷ l) in rw e (omega arith))

-- ---- what `put_digits` cites
module _ (old new : List ℕ) (at r n d : ℕ) (room : at + 21 ≤ length old) where
  pub last-digit : n < 10 → d ≡ 48 + n → Placed old new at r (d ∷ []) → Placed old new at r (digits_from 20 n []) × (r ≤ at + 20)
  last-digit h e p = let g : d ∷ [] ≡ digits_from 20 n [] = rw e (sym (digits-small n h)) in (rw (← g) p, omega (arith, p.behind))

  pub next-digit : (mid : List ℕ) (e : ℕ) → 10 ≤ n → n < 18446744073709551616 → d ≡ 48 + n % 10 → Placed old mid at e (digits_from 20 (n / 10) []) → Placed mid new e r (d ∷ []) →
      Placed old new at r (digits_from 20 n []) × (r ≤ at + 20)
  next-digit mid e h k f p q =
      let g : digits_from 20 (n / 10) [] ++ (d ∷ []) ≡ digits_from 20 n [] = rw f (sym (digits_last n h k)) in
      let w : Placed old new at r (digits_from 20 n []) = rw (← g) (placed-more old mid new at e r (digits_from 20 (n / 10) []) (d ∷ []) (omega arith) p q) in
      let b : length (digits_from 20 n []) ≤ 20 + length {A = ℕ} [] = digits-length 20 n [] in
      (w, omega (arith, w.behind))

-- ---- texts

-- a number below 0, with 2^63 added, and one that is not
pub shown-minus : (x : ℤ) (k : ℕ) → SFits w64 x → k ≡ biased x → k < 9223372036854775808 → two 32 45 (digits_from 20 (9223372036854775808 - k) []) ≡ shown x
unfolding shown
shown-minus (pos n) k f e h = absurd (omega (arith, biased-plus n))
shown-minus (negsuc n) k f e h =
    let g : 9223372036854775808 - k ≡ suc n = omega (arith, biased-minus n f.sfits, f.sfits) in rw g

pub shown-plus : (x : ℤ) (k : ℕ) → SFits w64 x → k ≡ biased x → 9223372036854775808 ≤ k → shown (pos (k - 9223372036854775808)) ≡ shown x
shown-plus (pos n) k f e h = let g : k - 9223372036854775808 ≡ n = omega (arith, biased-plus n) in rw g
shown-plus (negsuc n) k f e h = absurd (omega (arith, biased-minus n f.sfits, f.sfits))

-- ---- whole lines, from the parts in their order

counted-text : (n : ℕ) (a b : ℤ) (w : ℕ × ℕ) →
    (((111 ∷ 107 ∷ []) ++ shown a) ++ shown b) ++ shown (pos n) ++ (10 ∷ []) ≡ printed (exactly n) (gives (record { values = a ∷ b ∷ []; windows = some w }))
unfolding printed joined text
counted-text n a b w = simp (append_assoc, append-nil)

period-text : (count : Count) (a b c d : ℤ) →
    ((((111 ∷ 107 ∷ []) ++ shown a) ++ shown b) ++ shown c) ++ shown d ++ (10 ∷ []) ≡ printed count (gives (record { values = a ∷ b ∷ c ∷ d ∷ []; windows = none }))
unfolding printed joined text
period-text count a b c d = simp (append_assoc, append-nil)

refused-text : (count : Count) (n p : ℕ) →
    ((110 ∷ 111 ∷ []) ++ shown (pos n)) ++ shown (pos p) ++ (10 ∷ []) ≡ printed count (refuses n p)
unfolding printed text
refused-text count n p = refl

pub bad-text : (98 ∷ 97 ∷ []) ++ (100 ∷ 10 ∷ []) ≡ text "bad\n"
unfolding text
bad-text = refl

module _ (old : List ℕ) (at : ℕ) (room : at ≤ length old) where
  goes_on : {mid last : List ℕ} {e f : ℕ} (s t : List ℕ) → Placed old mid at e s → Placed mid last e f t → Placed old last at f (s ++ t)
  goes_on {mid} {last} {e} {f} s t p q = placed-more old mid last at e f s t room p q

  pub counted-line : {new m₁ m₂ m₃ m₄ : List ℕ} {r e₁ e₂ e₃ e₄ : ℕ} (n : ℕ) (a b : ℤ) → Placed old m₁ at e₁ (111 ∷ 107 ∷ []) → Placed m₁ m₂ e₁ e₂ (shown a) → Placed m₂ m₃ e₂ e₃ (shown b) →
      Placed m₃ m₄ e₃ e₄ (shown (pos n)) → Placed m₄ new e₄ r (10 ∷ []) →
      (w : ℕ × ℕ) → Placed old new at r (printed (exactly n) (gives (record { values = a ∷ b ∷ []; windows = some w })))
  counted-line n a b p₁ p₂ p₃ p₄ p₅ w =
      rw (← counted-text n a b w)
      (goes_on ((((111 ∷ 107 ∷ []) ++ shown a) ++ shown b) ++ shown (pos n)) (10 ∷ [])
      (goes_on (((111 ∷ 107 ∷ []) ++ shown a) ++ shown b) (shown (pos n)) (goes_on ((111 ∷ 107 ∷ []) ++ shown a) (shown b) (goes_on (111 ∷ 107 ∷ []) (shown a) p₁ p₂) p₃) p₄) p₅)

  pub period-line : {new m₁ m₂ m₃ m₄ m₅ : List ℕ} {r e₁ e₂ e₃ e₄ e₅ : ℕ} (a b c d : ℤ) → Placed old m₁ at e₁ (111 ∷ 107 ∷ []) → Placed m₁ m₂ e₁ e₂ (shown a) → Placed m₂ m₃ e₂ e₃ (shown b) →
      Placed m₃ m₄ e₃ e₄ (shown c) → Placed m₄ m₅ e₄ e₅ (shown d) → Placed m₅ new e₅ r (10 ∷ []) →
      (count : Count) → Placed old new at r (printed count (gives (record { values = a ∷ b ∷ c ∷ d ∷ []; windows = none })))
  period-line a b c d p₁ p₂ p₃ p₄ p₅ p₆ count =
      rw (← period-text count a b c d)
      (goes_on (((((111 ∷ 107 ∷ []) ++ shown a) ++ shown b) ++ shown c) ++ shown d) (10 ∷ [])
      (goes_on ((((111 ∷ 107 ∷ []) ++ shown a) ++ shown b) ++ shown c) (shown d)
      (goes_on (((111 ∷ 107 ∷ []) ++ shown a) ++ shown b) (shown c) (goes_on ((111 ∷ 107 ∷ []) ++ shown a) (shown b) (goes_on (111 ∷ 107 ∷ []) (shown a) p₁ p₂) p₃) p₄) p₅) p₆)

  pub refused-line : {new m₁ m₂ m₃ : List ℕ} {r e₁ e₂ e₃ : ℕ} (n p : ℕ) → Placed old m₁ at e₁ (110 ∷ 111 ∷ []) → Placed m₁ m₂ e₁ e₂ (shown (pos n)) → Placed m₂ m₃ e₂ e₃ (shown (pos p)) →
      Placed m₃ new e₃ r (10 ∷ []) → (count : Count) → Placed old new at r (printed count (refuses n p))
  refused-line n p p₁ p₂ p₃ p₄ count =
      rw (← refused-text count n p)
      (goes_on (((110 ∷ 111 ∷ []) ++ shown (pos n)) ++ shown (pos p)) (10 ∷ [])
      (goes_on ((110 ∷ 111 ∷ []) ++ shown (pos n)) (shown (pos p)) (goes_on (110 ∷ 111 ∷ []) (shown (pos n)) p₁ p₂) p₃) p₄)

  pub bad-line : {new m₁ : List ℕ} {r e₁ : ℕ} → Placed old m₁ at e₁ (98 ∷ 97 ∷ []) → Placed m₁ new e₁ r (100 ∷ 10 ∷ []) → Placed old new at r (text "bad\n")
  bad-line p₁ p₂ = rw (← bad-text) (goes_on (98 ∷ 97 ∷ []) (100 ∷ 10 ∷ []) p₁ p₂)

  pub letters : {new m₁ : List ℕ} {r e₁ : ℕ} (a b : ℕ) → Placed old m₁ at e₁ (a ∷ []) → Placed m₁ new e₁ r (b ∷ []) → Placed old new at r (two a b [])
  letters a b p₁ p₂ = goes_on (a ∷ []) (b ∷ []) p₁ p₂

  pub size-text : {new m₁ : List ℕ} {r e₁ : ℕ} (n : ℕ) → Placed old m₁ at e₁ (32 ∷ []) → Placed m₁ new e₁ r (digits_from 20 n []) → Placed old new at r (shown (pos n))
  unfolding shown
  size-text n p₁ p₂ = goes_on (32 ∷ []) (digits_from 20 n []) p₁ p₂

  pub minus-text : {new m₁ m₂ : List ℕ} {r e₁ e₂ : ℕ} (n : ℕ) → Placed old m₁ at e₁ (32 ∷ []) → Placed m₁ m₂ e₁ e₂ (45 ∷ []) → Placed m₂ new e₂ r (digits_from 20 n []) →
      Placed old new at r (two 32 45 (digits_from 20 n []))
  minus-text n p₁ p₂ p₃ = goes_on (32 ∷ 45 ∷ []) (digits_from 20 n []) (goes_on (32 ∷ []) (45 ∷ []) p₁ p₂) p₃

pub of-text : {old new : List ℕ} {at r : ℕ} (s t : List ℕ) → s ≡ t → Placed old new at r s → Placed old new at r t
of-text s t e p = rw (← e) p
