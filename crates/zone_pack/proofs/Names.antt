-- The pack by index is the pack of the crate `model`.
use mathlib.Core.Path.{◌≡◌, refl, ◌∙◌}
use mathlib.Core.Bool.{Bool, true, false, ◌&&◌}
use mathlib.Core.List.{List, ◌∷◌, map}
use mathlib.Core.Option.{Option, some}
use Prim.Native.Nat.{ℕ, zero, suc, ◌+◌, ◌*◌, ◌-◌, ◌≤◌, ◌<◌}
use native.Mathlib.Omega.{arith}
use native.Mathlib.Numerals.{add-one}
use borrow.Author.Tests.{leb-true, leb-false, lt-ltb, le-ltb}
use lib.Dec.{leb, ltb}
use lib.ListN.{length, get_or, take, drop, length-drop}
use lib.Seq.{drop-drop, drop-cons, take-take, length-take-le}
use Rattle.model.specs.Basic.{◌>>=◌, given, run, is_in, each}
use Rattle.model.specs.Bytes.{be}
use Rattle.model.specs.Directory.{Part}
use Rattle.model.specs.Pack.{Named, named_of, pack_of}
use Rattle.laws_base.specs.Test.{by-test, and_both}
use Rattle.big_endian.specs.Walk.{both, all_from}
use Rattle.big_endian.specs.Maybe.{is_some}
use Rattle.directory.specs.Directory.{longest_name, entry_count, start_at, len_at, part_at, record_ok, entries_ok, dir_ok}
use Rattle.zone_pack.specs.Pack.{named_from, named_at, name_ok, name_at_ok, most_zones, pack_ok}
use Rattle.directory.proofs.Parts.{parts-index, counted, some-given, drop-take, entries-hold}

and-false : (t : Bool) → (t && false) ≡ false
and-false true = refl
and-false false = refl

-- a record whose first byte is n and whose others are l
unfoldable with_name : ℕ → List ℕ → Option Named
with_name n l = given (is_in 1 longest_name n && leb n (length l)) (record { name = take n l; file = drop n l })

with-name : (n : ℕ) (l : List ℕ) (q : Named) (len : ℕ) → length l + 1 ≡ len → (n ≤ length l → record { name = take n l; file = drop n l } ≡ q) →
    with_name n l ≡ given (is_in 1 longest_name n && ltb n len) q
unfolding with_name
with-name n l q len h f =
    by-test (leb n (length l))
    (λ e.
    let k : n ≤ length l = leb-true n (length l) e in
    rw (e, lt-ltb n len (omega arith), f k))
    (λ e.
    let k : length l < n = leb-false n (length l) e in
    rw (e, le-ltb n len (omega arith), and-false))

-- a record of len bytes at start
named-from : (s : List ℕ) (start len : ℕ) → start + len ≤ length s → named_of (take len (drop start s)) ≡ given (name_ok s start len) (named_from s start len)
unfolding named_of name_ok with_name named_from
named-from s start zero h = rw (le-ltb (get_or s start 0) 0 (omega arith), and-false)
named-from s start (suc m) h =
    let n = get_or s start 0 in
    let r = drop (start + 1) s in
    let l : length r ≡ length s - (start + 1) = length-drop (start + 1) s in
    let k : length (take m r) ≡ m = length-take-le m r (omega arith) in
    rw (drop-cons s start 0 (omega arith), ← add-one start)
    (with-name n (take m r) (named_from s start (suc m)) (suc m) (omega arith)
    (λ e.
    let a : take n (take m r) ≡ take n r = take-take n m r (omega arith) in
    let x : m - n ≡ start + suc m - (start + 1 + n) = omega arith in
    let b : drop n (take m r) ≡ take (start + suc m - (start + 1 + n)) (drop (start + 1 + n) s) =
    drop-take n m r (omega arith) ∙ rw (x, drop-drop) in
    λ i. record { name = a i; file = b i }))

given-more : {B : Type 0} {a : Option B} {r : Option (List B)} (t u : Bool) (b : B) (l : List B) → a ≡ given t b → r ≡ given u l →
    (a >>= λ x. r >>= λ y. some (x ∷ y)) ≡ given (both t u) (b ∷ l)
given-more true true b l e f = rw (e, f)
given-more true false b l e f = rw (e, f)
given-more false u b l e f = rw e

-- the record of an entry, which lies inside
named-one : (s : List ℕ) (lo i : ℕ) → record_ok s lo (start_at s i) (len_at s i) ≡ true → named_of (part_at s i).bytes ≡ given (name_at_ok s i) (named_at s i)
unfolding record_ok part_at named_at
named-one s lo i h =
    let o = start_at s i in
    let n = len_at s i in
    named-from s o n (leb-true (o + n) (length s) (and_both (leb lo o) (leb (o + n) (length s)) h).1)

-- the records of k entries from entry i on, which lie inside
named-each : (s : List ℕ) (k lo i : ℕ) → entries_ok s lo i k ≡ true →
    each (λ (p : Part). named_of p.bytes) (map (part_at s) (run i k)) ≡ given (all_from (name_at_ok s) i k) (map (named_at s) (run i k))
unfolding each run all_from entries_ok
named-each s zero lo i h = refl
named-each s (suc k) lo i h =
    let o = start_at s i in
    let n = len_at s i in
    let p = and_both (record_ok s lo o n) (entries_ok s (o + n) (i + 1) k) h in
    let more : each (λ (p : Part). named_of p.bytes) (map (part_at s) (run (suc i) k)) ≡ given (all_from (name_at_ok s) (i + 1) k) (map (named_at s) (run (suc i) k)) =
    rw (← add-one i) (named-each s k (o + n) (i + 1) p.1) in
    given-more (name_at_ok s i) (all_from (name_at_ok s) (i + 1) k) (named_at s i) (map (named_at s) (run (suc i) k)) (named-one s lo i p.0) more

-- the pack by index
pub pack-index : (s : List ℕ) → pack_of s ≡ given (pack_ok s) (map (named_at s) (run 0 (entry_count s)))
unfolding pack_of pack_ok
pack-index s =
    by-test (dir_ok s)
    (λ e.
    let w = entries-hold s e in
    rw (parts-index s, e, counted s w.0, named-each s (entry_count s) (4 + 8 * entry_count s) 0 w.1)
    (by-test (leb (entry_count s) most_zones) (λ f. rw f) (λ f. rw f)))
    (λ e. rw (parts-index s, e, and-false) (by-test (leb (be 4 s) most_zones) (λ f. rw f) (λ f. rw f)))

-- the test by index passes exactly where there are records
pub as-pack : (s : List ℕ) {r : Bool} → r ≡ pack_ok s → r ≡ is_some (pack_of s)
as-pack s e = rw (pack-index s) (e ∙ some-given (pack_ok s) (map (named_at s) (run 0 (entry_count s))))
