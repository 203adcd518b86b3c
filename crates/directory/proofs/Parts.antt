-- The directory by index is the directory of the crate `model`, which reads it from the front.
use mathlib.Core.Path.{◌≡◌, refl, sym, ap, ◌∙◌}
use mathlib.Core.Bool.{Bool, true, false, ◌&&◌}
use mathlib.Core.List.{List, [], ◌∷◌, map}
use mathlib.Core.Option.{Option, none, some}
use Prim.Native.Nat.{ℕ, zero, suc, ◌+◌, ◌*◌, ◌-◌, ◌≤◌, ◌<◌}
use native.Mathlib.Nat.{le_of_suc-le-suc, not-suc-le-zero, add-zero, sub-zero}
use native.Mathlib.Omega.{arith}
use native.Mathlib.Numerals.{add-one}
use borrow.Author.Tests.{leb-true}
use lib.Dec.{leb}
use lib.ListN.{length, get_or, take, drop}
use lib.Seq.{drop-drop, take-nil}
use Rattle.model.specs.Basic.{◌>>=◌, given, need, run}
use Rattle.model.specs.Bytes.{be}
use Rattle.model.specs.Directory.{Part, parts_from, parts_of}
use Rattle.laws_base.specs.Test.{by-test, and_both}
use Rattle.big_endian.proofs.Lists.{at-4}
use Rattle.big_endian.specs.Maybe.{is_some}
use Rattle.directory.specs.Directory.{entry_count, start_at, len_at, part_at, record_ok, entries_ok, dir_ok}

-- one entry of `parts_from`, its two numbers named
unfoldable step : ℕ → ℕ → ℕ → ℕ → ℕ → List ℕ → List ℕ → Option (List Part)
step size n lo o k d b =
    need (leb lo o && leb (o + k) size) >>= λ _.
    parts_from size n (o + k) (drop 8 d) (drop k (drop (o - lo) b)) >>= λ rest.
    some (record { place = o; bytes = take k (drop (o - lo) b) } ∷ rest)

step_is_lem : (size n lo : ℕ) (d b : List ℕ) → parts_from size (suc n) lo d b ≡ step size n lo (be 4 d) (be 4 (drop 4 d)) d b
unfolding parts_from step
step_is_lem size n lo d b = refl

-- an entry that breaks the order, and one that keeps it
step-no : (size n lo o k : ℕ) (d b : List ℕ) → (leb lo o && leb (o + k) size) ≡ false → step size n lo o k d b ≡ none
unfolding step
step-no size n lo o k d b e = rw e

step-yes : (size n lo o k : ℕ) (d b : List ℕ) (p : Part) (t : Bool) (l : List Part) → (leb lo o && leb (o + k) size) ≡ true →
    parts_from size n (o + k) (drop 8 d) (drop k (drop (o - lo) b)) ≡ given t l →
    record { place = o; bytes = take k (drop (o - lo) b) } ≡ p →
    step size n lo o k d b ≡ given t (p ∷ l)
unfolding step
step-yes size n lo o k d b p true l e r q = rw (e, r, q)
step-yes size n lo o k d b p false l e r q = rw (e, r)

module _ (s : List ℕ) where
  start_is : (i : ℕ) → 4 + 8 * i + 8 ≤ length s → be 4 (drop (4 + 8 * i) s) ≡ start_at s i
  unfolding start_at
  start_is i h = sym (at-4 s (4 + 8 * i) (omega arith))

  len_is : (i : ℕ) → 4 + 8 * i + 8 ≤ length s → be 4 (drop 4 (drop (4 + 8 * i) s)) ≡ len_at s i
  unfolding len_at
  len_is i h =
      let e : 4 + 8 * i + 4 ≡ 8 + 8 * i = omega arith in
      rw (drop-drop, e) (sym (at-4 s (8 + 8 * i) (omega arith)))

  -- what follows an entry that keeps the order: the rest of the directory, and the file from the record's end on
  rest_of : (lo i o n : ℕ) → lo ≤ o →
      (drop 8 (drop (4 + 8 * i) s) ≡ drop (4 + 8 * (i + 1)) s) × (drop (o - lo) (drop lo s) ≡ drop o s) × (drop n (drop o s) ≡ drop (o + n) s)
  rest_of lo i o n h =
      let e : 4 + 8 * i + 8 ≡ 4 + 8 * (i + 1) = omega arith in
      let f : lo + (o - lo) ≡ o = omega arith in
      (drop-drop 8 (4 + 8 * i) s ∙ ap (λ (m : ℕ). drop m s) e, drop-drop (o - lo) lo s ∙ ap (λ (m : ℕ). drop m s) f, drop-drop n o s)

  step-index : (i k lo : ℕ) → 4 + 8 * i + 8 ≤ length s → (t : Bool) (l : List Part) →
      parts_from (length s) k (start_at s i + len_at s i) (drop (4 + 8 * (i + 1)) s) (drop (start_at s i + len_at s i) s) ≡ given t l →
      step (length s) k lo (be 4 (drop (4 + 8 * i) s)) (be 4 (drop 4 (drop (4 + 8 * i) s))) (drop (4 + 8 * i) s) (drop lo s) ≡
      given (record_ok s lo (start_at s i) (len_at s i) && t) (part_at s i ∷ l)
  unfolding record_ok part_at
  step-index i k lo h t l more =
      let o = start_at s i in
      let n = len_at s i in
      let d = drop (4 + 8 * i) s in
      rw (start_is i h, len_is i h)
      (by-test (leb lo o && leb (o + n) (length s))
      (λ e.
      let le : lo ≤ o = leb-true lo o (and_both (leb lo o) (leb (o + n) (length s)) e).0 in
      let q = rest_of lo i o n le in
      step-yes (length s) k lo o n d (drop lo s) (part_at s i) t l e (rw (q.0, q.1, q.2) more) (rw q.1) ∙ rw e)
      (λ e. step-no (length s) k lo o n d (drop lo s) e ∙ rw e))

  parts_from_lem : (k lo i : ℕ) → 4 + 8 * (i + k) ≤ length s →
      parts_from (length s) k lo (drop (4 + 8 * i) s) (drop lo s) ≡ given (entries_ok s lo i k) (map (part_at s) (run i k))
  unfolding parts_from entries_ok run
  parts_from_lem zero lo i h = refl
  parts_from_lem (suc k) lo i h =
      let o = start_at s i in
      let n = len_at s i in
      let d = drop (4 + 8 * i) s in
      let more : parts_from (length s) k (o + n) (drop (4 + 8 * (i + 1)) s) (drop (o + n) s) ≡ given (entries_ok s (o + n) (i + 1) k) (map (part_at s) (run (suc i) k)) =
      rw (← add-one i) (parts_from_lem k (o + n) (i + 1) (omega arith)) in
      step_is_lem (length s) k lo d (drop lo s) ∙ step-index i k lo (omega arith) (entries_ok s (o + n) (i + 1) k) (map (part_at s) (run (suc i) k)) more

pub counted : (s : List ℕ) → 4 ≤ length s → be 4 s ≡ entry_count s
unfolding entry_count
counted s h = sym (at-4 s 0 h)

-- the records of a file by index
pub parts-index : (s : List ℕ) → parts_of s ≡ given (dir_ok s) (map (part_at s) (run 0 (entry_count s)))
unfolding parts_of dir_ok
parts-index s =
    by-test (leb 4 (length s))
    (λ e.
    let h : 4 ≤ length s = leb-true 4 (length s) e in
    let n : be 4 s ≡ entry_count s = counted s h in
    rw (e, n)
    (by-test (leb (4 + 8 * entry_count s) (length s))
    (λ f.
    let k : 4 + 8 * entry_count s ≤ length s = leb-true (4 + 8 * entry_count s) (length s) f in
    rw f (parts_from_lem s (entry_count s) (4 + 8 * entry_count s) 0 (omega arith)))
    (λ f. rw f)))
    (λ e. rw e)

pub some-given : {A : Type 0} (t : Bool) (a : A) → t ≡ is_some (given t a)
some-given true a = refl
some-given false a = refl

-- the test by index passes exactly where there are records
pub as-dir : (s : List ℕ) {r : Bool} → r ≡ dir_ok s → r ≡ is_some (parts_of s)
as-dir s e = rw (parts-index s) (e ∙ some-given (dir_ok s) (map (part_at s) (run 0 (entry_count s))))

-- ---- for a reader of the records: a part of a part, the i-th of the records, and where it lies

pub drop-take : {A : Type 0} (n m : ℕ) (l : List A) → n ≤ m → drop n (take m l) ≡ take (m - n) (drop n l)
drop-take zero m l h = ap (λ (k : ℕ). take k l) (sym (sub-zero m))
drop-take (suc n) zero l h = absurd (omega arith)
drop-take (suc n) (suc m) [] h = sym (take-nil (suc m - suc n))
drop-take (suc n) (suc m) (x ∷ l) h =
    let e : suc m - suc n ≡ m - n = omega arith in
    rw e (drop-take n m l (le_of_suc-le-suc h))

pub run_at : {A : Type 0} (f : ℕ → A) (d : A) (n a i : ℕ) → i < n → get_or (map f (run a n)) i d ≡ f (a + i)
unfolding run
run_at f d zero a i h = absurd (not-suc-le-zero h)
run_at f d (suc n) a zero h = ap f (sym (add-zero a))
run_at f d (suc n) a (suc i) h = run_at f d n (suc a) i (le_of_suc-le-suc h) ∙ ap f (omega arith)

module _ (s : List ℕ) where
  pub inside-from : (k lo i j : ℕ) → entries_ok s lo i k ≡ true → j < k → start_at s (i + j) + len_at s (i + j) ≤ length s
  unfolding entries_ok record_ok
  inside-from zero lo i j e h = absurd (not-suc-le-zero h)
  inside-from (suc k) lo i zero e h =
      let o = start_at s i in
      let n = len_at s i in
      let p = and_both (leb lo o && leb (o + n) (length s)) (entries_ok s (o + n) (i + 1) k) e in
      rw add-zero (leb-true (o + n) (length s) (and_both (leb lo o) (leb (o + n) (length s)) p.0).1)
  inside-from (suc k) lo i (suc j) e h =
      let o = start_at s i in
      let n = len_at s i in
      let p = and_both (leb lo o && leb (o + n) (length s)) (entries_ok s (o + n) (i + 1) k) e in
      let x : i + suc j ≡ (i + 1) + j = omega arith in
      rw x (inside-from k (o + n) (i + 1) j p.1 (le_of_suc-le-suc h))

-- a directory that keeps its layout has a count, and its entries are in order
pub entries-hold : (s : List ℕ) → dir_ok s ≡ true → (4 ≤ length s) × (entries_ok s (4 + 8 * entry_count s) 0 (entry_count s) ≡ true)
unfolding dir_ok
entries-hold s h =
    let m = 4 + 8 * entry_count s in
    let p = and_both (leb 4 (length s)) (leb m (length s) && entries_ok s m 0 (entry_count s)) h in
    (leb-true 4 (length s) p.0, (and_both (leb m (length s)) (entries_ok s m 0 (entry_count s)) p.1).1)
