-- Laws of `placed` and `stored`: what is written after one another is written at once, and keeps the length. Assumes nothing.
use mathlib.Core.Path.{◌≡◌, refl, sym, ap, ◌∙◌}
use mathlib.Core.Bool.{Bool, true, false}
use mathlib.Core.List.{List, [], ◌∷◌, ◌++◌, map, append_assoc, append-nil}
use Prim.Native.Nat.{ℕ, suc, ◌+◌, ◌*◌, ◌/◌, ◌%◌, ◌≤◌, ◌<◌}
use native.Mathlib.Omega.{arith}
use lib.IntN.{ℤ, pos}
use lib.ListN.{length, take, drop, set, length-append, length-drop, length-set, take-append-drop}
use lib.Seq.{length-take-le, take_at, drop-drop, drop-append-add, set_split}
use Rattle.model.specs.Basic.{joined}
use Rattle.model.specs.Blocks.{Block}
use Rattle.model.specs.Instant.{second, instant}
use Rattle.instant_signed.specs.Reads.{seconds_from}
use Rattle.walk_list_week.specs.Stretched.{placed, fields, stored}

-- ---- placed

module _ (i : ℕ) (a b e : List ℤ) (h : i ≤ length e) where
  front_long : length (take i e ++ a) ≡ i + length a
  front_long = let p = length-append (take i e) a in let q = length-take-le i e h in omega arith

  taken : take (i + length a) (take i e ++ (a ++ drop (i + length a) e)) ≡ take i e ++ a
  taken = ap (take (i + length a)) (sym (append_assoc (take i e) a (drop (i + length a) e))) ∙ take_at (take i e ++ a) (drop (i + length a) e) (i + length a) front_long

  dropped : drop (i + length a + length b) (take i e ++ (a ++ drop (i + length a) e)) ≡ drop (i + length (a ++ b)) e
  dropped =
      let p : i + length a + length b ≡ length (take i e ++ a) + length b = let q = front_long in omega arith in
      let r : i + length a + length b ≡ i + length (a ++ b) = let q = length-append a b in omega arith in
      ap (drop (i + length a + length b)) (sym (append_assoc (take i e) a (drop (i + length a) e)))
      ∙ ap (λ (k : ℕ). drop k ((take i e ++ a) ++ drop (i + length a) e)) p
      ∙ drop-append-add (take i e ++ a) (drop (i + length a) e) (length b)
      ∙ drop-drop (length b) (i + length a) e
      ∙ ap (λ (k : ℕ). drop k e) r

  -- a at i, then b behind it
  pub placed-placed : placed (i + length a) b (placed i a e) ≡ placed i (a ++ b) e
  unfolding placed
  placed-placed =
      ap (λ (l : List ℤ). l ++ (b ++ drop (i + length a + length b) (take i e ++ (a ++ drop (i + length a) e)))) taken
      ∙ ap (λ (l : List ℤ). (take i e ++ a) ++ (b ++ l)) dropped
      ∙ append_assoc (take i e) a (b ++ drop (i + length (a ++ b)) e)
      ∙ ap (λ (l : List ℤ). take i e ++ l) (sym (append_assoc a b (drop (i + length (a ++ b)) e)))

pub placed-long : (i : ℕ) (l e : List ℤ) → i + length l ≤ length e → length (placed i l e) ≡ length e
unfolding placed
placed-long i l e h =
    let p = length-append (take i e) (l ++ drop (i + length l) e) in
    let q = length-append l (drop (i + length l) e) in
    let r = length-take-le i e (omega arith) in
    let s = length-drop (i + length l) e in
    omega arith

pub placed-none : (i : ℕ) (e : List ℤ) → placed i [] e ≡ e
unfolding placed
placed-none i e = let p : i + 0 ≡ i = omega arith in rw p (take-append-drop i e)

pub placed_one : (i : ℕ) (a : ℤ) (e : List ℤ) → i < length e → set e i a ≡ placed i (a ∷ []) e
unfolding placed
placed_one i a e h = let p : suc i ≡ i + 1 = omega arith in set_split e i a h ∙ ap (λ (k : ℕ). take i e ++ (a ∷ drop k e)) p

-- two numbers, one after the other
pub placed-two : (i : ℕ) (a b : ℤ) (e : List ℤ) → i + 2 ≤ length e → set (set e i a) (i + 1) b ≡ placed i (a ∷ b ∷ []) e
placed-two i a b e h =
    placed_one (i + 1) b (set e i a) (let q = length-set e i a in omega arith)
    ∙ ap (placed (i + 1) (b ∷ [])) (placed_one i a e (omega arith))
    ∙ placed-placed i (a ∷ []) (b ∷ []) e (omega arith)

-- those of an instant
pub placed-instant : (i t : ℕ) {a b : ℤ} (e : List ℤ) → i + 2 ≤ length e → a ≡ seconds_from (t / second) → b ≡ pos (t % second) → set (set e i a) (i + 1) b ≡ placed i (instant t) e
unfolding instant seconds_from
placed-instant i t {a} {b} e h p q = rw (p, q) (placed-two i (seconds_from (t / second)) (pos (t % second)) e h)

-- ---- stored

instant-long : (t : ℕ) → length (instant t) ≡ 2
unfolding instant
instant-long t = refl

fields-long : (b : Block) → length (fields b) ≡ 4
fields-long b = let p = length-append (instant b.start) (instant b.end) in let q = instant-long b.start in let r = instant-long b.end in omega arith

-- four numbers each
pub numbers-long : (l : List Block) → length (joined (map fields l)) ≡ 4 * length l
unfolding joined
numbers-long [] = refl
numbers-long (b ∷ l) = let p = length-append (fields b) (joined (map fields l)) in let q = fields-long b in let r = numbers-long l in omega arith

numbers-append : (l m : List Block) → joined (map fields (l ++ m)) ≡ joined (map fields l) ++ joined (map fields m)
unfolding joined
numbers-append [] m = refl
numbers-append (b ∷ l) m = ap (λ (r : List ℤ). fields b ++ r) (numbers-append l m) ∙ sym (append_assoc (fields b) (joined (map fields l)) (joined (map fields m)))

-- l, then m behind it
pub stored-append : (w : Bool) (k : ℕ) (l m : List Block) (e : List ℤ) → (w ≡ true → 4 * k ≤ length e) → stored w (k + length l) m (stored w k l e) ≡ stored w k (l ++ m) e
unfolding stored
stored-append false k l m e h = refl
stored-append true k l m e h =
    let p : 4 * (k + length l) ≡ 4 * k + length (joined (map fields l)) = let q = numbers-long l in omega arith in
    ap (λ (i : ℕ). placed i (joined (map fields m)) (placed (4 * k) (joined (map fields l)) e)) p
    ∙ placed-placed (4 * k) (joined (map fields l)) (joined (map fields m)) e (h refl)
    ∙ ap (λ (r : List ℤ). placed (4 * k) r e) (sym (numbers-append l m))

pub stored-long : (w : Bool) (k : ℕ) (l : List Block) (e : List ℤ) → (w ≡ true → 4 * (k + length l) ≤ length e) → length (stored w k l e) ≡ length e
unfolding stored
stored-long false k l e h = refl
stored-long true k l e h = placed-long (4 * k) (joined (map fields l)) e (let q = numbers-long l in let p = h refl in omega arith)

pub stored-none : (w : Bool) (k : ℕ) (e : List ℤ) → stored w k [] e ≡ e
unfolding stored joined
stored-none false k e = refl
stored-none true k e = placed-none (4 * k) e

-- one stretch
pub stored_one : (k : ℕ) (b : Block) (e : List ℤ) → 4 * k + 4 ≤ length e → placed (4 * k + 2) (instant b.end) (placed (4 * k) (instant b.start) e) ≡ stored true k (b ∷ []) e
unfolding stored joined
stored_one k b e h =
    let p : 4 * k + 2 ≡ 4 * k + length (instant b.start) = let q = instant-long b.start in omega arith in
    ap (λ (i : ℕ). placed i (instant b.end) (placed (4 * k) (instant b.start) e)) p
    ∙ placed-placed (4 * k) (instant b.start) (instant b.end) e (omega arith)
    ∙ ap (λ (l : List ℤ). placed (4 * k) l e) (sym (append-nil (fields b)))

-- `put` writes nothing, or both instants
pub stored_no : {w : Bool} (k : ℕ) (l : List Block) (e : List ℤ) → w ≡ false → e ≡ stored w k l e
unfolding stored
stored_no k l e h = rw h

pub stored-two : {w : Bool} (k : ℕ) (b : Block) (e : List ℤ) {x y : List ℤ} → 4 * k + 4 ≤ length e → w ≡ true → x ≡ placed (4 * k) (instant b.start) e → y ≡ placed (4 * k + 2) (instant b.end) x
    → y ≡ stored w k (b ∷ []) e
stored-two k b e h w p q = rw w (q ∙ ap (placed (4 * k + 2) (instant b.end)) p ∙ stored_one k b e h)
