-- Numbers that are stored one after the other are a list that is written.
use Rattle.std.specs.Prelude.{◌≡◌, refl, List, [], ◌∷◌, ◌++◌, ℕ, ◌+◌, ◌≤◌, ◌<◌, ℤ, length, take, drop, set}
use Rattle.std.proofs.Common.{ap, ap₂, sym, ◌∙◌, arith, length-set, append_assoc, append-nil, take_all, add-zero, add-one, drop-set-lt, take-suc-set}
use Rattle.std.proofs.lemmas.List.{take-append-drop}
use Rattle.std.proofs.lemmas.Slice.{put_mid-paste}
use borrow.Rule.Slice.PartMut.{put_mid}
use Rattle.answer_numbers.specs.Outcomes.{written}

-- a number in front of others: the stored number u is the given number a
pub stored : {u a : ℤ} {l m : List ℤ} → u ≡ a → l ≡ m → u ∷ l ≡ a ∷ m
stored p q = ap₂ ◌∷◌ p q

pub no_more : ◌≡◌ {A = List ℤ} [] []
no_more = refl

pub written_same : (i : ℕ) (e : List ℤ) {l m : List ℤ} → l ≡ m → written i l e ≡ written i m e
written_same i e p = ap (λ l. written i l e) p

-- a list that is written lies between what stood before it and what stands behind it
pub written-between : (i : ℕ) (l e : List ℤ) → i + length l ≤ length e → written i l e ≡ take i e ++ l ++ drop (i + length l) e
unfolding written
written-between i [] e h = simp (add-zero, append-nil) (sym (take-append-drop i e))
written-between i (a ∷ l) e h =
    let k : i < length e = omega arith in
    let r : (i + 1) + length l ≤ length (set e i a) = omega (arith, length-set e i a) in
    let q : drop (i + 1 + length l) (set e i a) ≡ drop (i + 1 + length l) e = drop-set-lt (i + 1 + length l) e i a (omega arith) in
    let t : take (i + 1) (set e i a) ≡ take i e ++ a ∷ [] = rw add-one (take-suc-set e i a k) in
    let n : i + 1 + length l ≡ i + length (a ∷ l) = omega arith in
    written-between (i + 1) l (set e i a) r ∙ rw (t, q, n) (simp append_assoc)

-- so is one that is copied over a part of its length
pub part-written : (i k : ℕ) (l e : List ℤ) {y : List ℤ} → y ≡ l → k ≡ length l → i + k ≤ length e → put_mid i k e y ≡ written i l e
part-written i k l e {y} p q h =
    let u : i + length l ≤ length e = omega arith in
    put_mid-paste i k e y l (length l) p (sym q) refl ∙ rw (take_all (length l) l (omega arith)) (sym (written-between i l e u))
