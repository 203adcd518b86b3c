-- The reading of specs/Places.antt is the crate `model`'s: a file's table is there where the file is usable, and it is what the layout says
-- (`table_is`). The model takes lists apart from the front, the code reads at places: each part of a file has one lemma.
use mathlib.Core.Path.{◌≡◌, refl, sym, ap, ◌∙◌}
use mathlib.Core.Bool.{Bool, true, false, ◌&&◌}
use mathlib.Core.Option.{none, some}
use mathlib.Core.List.{List, [], ◌∷◌, map}
use Prim.Native.Nat.{ℕ, zero, suc, suc-le-suc, ◌+◌, ◌*◌, ◌-◌, ◌≤◌, ◌<◌, ◌^◌}
use native.Mathlib.Nat.{not-suc-le-zero, le_of_suc-le-suc, add_assoc}
use native.Mathlib.Decide.{dec_lt}
use native.Mathlib.Omega.{arith}
use native.Mathlib.Numerals.{add-one}
use borrow.Author.Tests.{ltb-true, ltb-false, leb-true, leb-false, le-leb, lt-leb}
use lib.Dec.{leb, ltb, eqb}
use lib.ListN.{length, get_or, take, drop, length-drop, length-map, drop_of_length-le}
use lib.Seq.{drop-cons, drop-drop, drop-length, get_or-drop, get_or-take, take-take, length-take-le}
use Rattle.model.specs.Basic.{◌>>=◌, given, need, is_in, all, same_list}
use Rattle.model.specs.Bytes.{be, words, pieces, lifted, newline}
use Rattle.model.specs.Instant.{epoch}
use Rattle.model.specs.Tzif as M
use Rattle.model.specs.Tzif.{Header, header_of, size_of, offset_in, type_ok, counts_ok, changes_of, line_of, Table, table_in, table_of, header_size, type_size}
use Rattle.laws_base.specs.Test.{by-test, and_both}
use Rattle.big_endian.specs.Be.{be32}
use Rattle.big_endian.specs.Walk.{all_from, rises_at}
use Rattle.big_endian.proofs.Lists.{at-4, at_8, word_at, piece-at, words-length, pieces-length, all-index}
use Rattle.big_endian.proofs.Walk.{all-at}
use Rattle.zone_tzif_head.specs.declared.Head.{Head}
use Rattle.zone_tzif_head.specs.Heads.{header_is, head_ok, head_at, second_at}
use Rattle.zone_tzif_block.specs.Parts.{key_at, byte_below, type_offset, type_fits, kinds_at, types_at, marks_at, tail_at, tail_ok, times_rise, tables_ok, block_ok}
use Rattle.zone_tzif.specs.Places.{layout_at, usable, layout_of, time_at, offset_after, changes_from, changes_at, table_at}

-- ---- headers

room : (a n : ℕ) → leb header_size (n - a) ≡ leb (a + header_size) n
room a n =
    by-test (leb (a + header_size) n)
    (λ e. let h : a + header_size ≤ n = leb-true _ _ e in le-leb header_size (n - a) (omega arith) ∙ sym e)
    (λ e. let h : n < a + header_size = leb-false _ _ e in lt-leb header_size (n - a) (omega arith) ∙ sym e)

module _ (f : List ℕ) (a : ℕ) where
  -- count k of the header at a
  count-is : (k : ℕ) → k < 6 → a + header_size ≤ length f → get_or (words 4 6 (drop 20 (drop a f))) k 0 ≡ be32 f (a + (20 + 4 * k))
  count-is k h i =
      word_at 4 6 (drop 20 (drop a f)) k h
      ∙ ap (be 4) (drop-drop (4 * k) 20 (drop a f) ∙ drop-drop (20 + 4 * k) a f)
      ∙ sym (at-4 f (a + (20 + 4 * k)) (omega arith))

  head-is : header_of (drop a f) ≡ given (head_ok f a) (header_is (head_at f a))
  unfolding header_of head_ok head_at
  head-is =
      rw (length-drop, room a (length f))
      (by-test (leb (a + header_size) (length f))
      (λ e. let i : a + header_size ≤ length f = leb-true _ _ e in
      rw (e, ← at-4 f a (omega arith), get_or-drop a f 4 0, count-is 0 (omega arith) i, count-is 1 (omega arith) i, count-is 2 (omega arith) i, count-is 3 (omega arith) i, count-is 4 (omega arith) i, count-is 5 (omega arith) i))
      (λ e. rw e))

-- ---- the footer's line

same-one : (x : ℕ) → same_list (x ∷ []) (newline ∷ []) ≡ eqb x newline
unfolding same_list
same-one x = by-test (eqb x newline) (λ e. rw e) (λ e. rw e)

same_none : same_list [] (newline ∷ []) ≡ false
unfolding same_list
same_none = refl

and-false : (a : Bool) → (a && false) ≡ false
and-false true = refl
and-false false = refl

-- the last byte
last_one : (f : List ℕ) → 0 < length f → drop (length f - 1) f ≡ get_or f (length f - 1) 0 ∷ []
last_one f h =
    let e : suc (length f - 1) ≡ length f = omega arith in
    drop-cons f (length f - 1) 0 (omega arith) ∙ rw (e, drop-length)

module _ (f : List ℕ) (t : ℕ) where
  -- a line needs two bytes
  line-in : t + 1 < length f → line_of (drop t f) ≡ given (eqb (get_or f t 0) newline && eqb (get_or f (length f - 1) 0) newline) (take (length f - (t + 2)) (drop (t + 1) f))
  unfolding line_of
  line-in h =
      let n : length f - (t + 1) - 1 ≡ length f - (t + 2) = omega arith in
      let e : t + 1 + (length f - (t + 2)) ≡ length f - 1 = omega arith in
      rw (drop-cons f t 0 (omega arith), ← add-one t, length-drop, n, drop-drop, e, last_one f (omega arith), same-one)

  line-out : length f ≤ t + 1 → line_of (drop t f) ≡ none
  unfolding line_of
  line-out h = go (dec_lt t (length f))
    where
      go : Dec (t < length f) → line_of (drop t f) ≡ none
      go (yes y) =
          let z : length f ≤ suc t = omega arith in
          rw (drop-cons f t 0 y, drop_of_length-le f z, same_none, and-false)
      go (no y) =
          let z : length f ≤ t = omega arith in
          rw (drop_of_length-le f z)

  line-is : line_of (drop t f) ≡ given (tail_ok f t) (take (length f - (t + 2)) (drop (t + 1) f))
  unfolding tail_ok
  line-is =
      by-test (ltb (t + 1) (length f))
      (λ e. rw e (line-in (ltb-true _ _ e)))
      (λ e. rw e (line-out (ltb-false _ _ e)))

-- ---- the tables

map_at : {A : Type 0} (g : A → ℕ) (l : List A) (i : ℕ) (d : A) → i < length l → get_or (map g l) i 0 ≡ g (get_or l i d)
map_at g [] i d h = absurd (not-suc-le-zero h)
map_at g (x ∷ l) zero d h = refl
map_at g (x ∷ l) (suc i) d h = map_at g l i d (le_of_suc-le-suc h)

less : (n : ℕ) → suc n - 1 ≡ n
less n = omega arith

-- a rising list, by index
rising-is : (key : ℕ → ℕ) (l : List ℕ) (i : ℕ) → ((j : ℕ) → j < length l → key (i + j) ≡ get_or l j 0) → M.rising l ≡ all_from (rises_at key) i (length l - 1)
unfolding M.rising all_from
rising-is key [] i h = refl
rising-is key (a ∷ []) i h = refl
rising-is key (a ∷ b ∷ l) i h =
    let ea : key i ≡ a = ap key (omega arith) ∙ h 0 (omega arith) in
    let eb : key (i + 1) ≡ b = h 1 (omega arith) in
    let r : M.rising (b ∷ l) ≡ all_from (rises_at key) (i + 1) (length l) =
    rising-is key (b ∷ l) (i + 1) (λ j k. ap key (omega arith) ∙ h (suc j) (suc-le-suc k)) ∙ ap (all_from (rises_at key) (i + 1)) (less (length l)) in
    rw (less (suc (length l)), ea, eb, r) (by-test (ltb a b) (λ q. rw q) (λ q. rw q))

-- the changes, by index
changes-are : (time offset : ℕ → ℕ) (offs ts ks : List ℕ) (i : ℕ) → length ks ≡ length ts
    → ((j : ℕ) → j < length ts → get_or ts j 0 - (2 ^ 63 - epoch) ≡ time (i + j))
    → ((j : ℕ) → j < length ts → get_or offs (get_or ks j 0) 0 ≡ offset (suc (i + j)))
    → changes_of offs ts ks ≡ changes_from time offset i (length ts)
unfolding changes_of changes_from
changes-are time offset offs [] ks i e p q = refl
changes-are time offset offs (t ∷ ts) [] i e p q = absurd (omega arith)
changes-are time offset offs (t ∷ ts) (k ∷ ks) i e p q =
    let z : i + 0 ≡ i = omega arith in
    let a : t - (2 ^ 63 - epoch) ≡ time i = p 0 (omega arith) ∙ ap time z in
    let b : get_or offs k 0 ≡ offset (suc i) = q 0 (omega arith) ∙ ap (λ (m : ℕ). offset (suc m)) z in
    let r : changes_of offs ts ks ≡ changes_from time offset (suc i) (length ts) =
    changes-are time offset offs ts ks (suc i) (omega arith)
    (λ j l. p (suc j) (suc-le-suc l) ∙ ap time (omega arith))
    (λ j l. q (suc j) (suc-le-suc l) ∙ ap (λ (m : ℕ). offset (suc m)) (omega arith)) in
    rw (a, b, r)

-- a block that starts at b and has room
module _ (f : List ℕ) (b : ℕ) (h : Head) (fits : tail_at b h + 1 < length f) where
  abbrev n : ℕ
  n = h.times

  key-is : (i : ℕ) → i < n → get_or (map (lifted 8) (words 8 n (drop b f))) i 0 ≡ key_at f b i
  unfolding key_at
  key-is i l =
      map_at (lifted 8) (words 8 n (drop b f)) i 0 (omega (arith, words-length 8 n (drop b f)))
      ∙ ap (lifted 8) (word_at 8 n (drop b f) i l ∙ ap (be 8) (drop-drop (8 * i) b f) ∙ sym (at_8 f (b + 8 * i) (omega arith)))

  times_long : length (map (lifted 8) (words 8 n (drop b f))) ≡ n
  times_long = length-map (words 8 n (drop b f)) (lifted 8) ∙ words-length 8 n (drop b f)

  times-are : M.rising (map (lifted 8) (words 8 n (drop b f))) ≡ times_rise f b n
  times-are =
      rising-is (key_at f b) (map (lifted 8) (words 8 n (drop b f))) 0
      (λ j l. ap (key_at f b) (omega arith) ∙ sym (key-is j (omega (arith, times_long))))
      ∙ ap (λ (k : ℕ). all_from (rises_at (key_at f b)) 0 (k - 1)) times_long

  -- a byte of k bytes from a on
  byte-is : (a k i : ℕ) → i < k → get_or (take k (drop a (drop b f))) i 0 ≡ get_or f (b + a + i) 0
  byte-is a k i l = rw (get_or-take k (drop a (drop b f)) i 0 l, drop-drop, get_or-drop)

  bytes-long : (a k : ℕ) → b + a + k ≤ length f → length (take k (drop a (drop b f))) ≡ k
  bytes-long a k l = length-take-le k (drop a (drop b f)) (rw (drop-drop, length-drop) (omega arith))

  bytes_below : (a k m : ℕ) → b + a + k ≤ length f → all (λ x. ltb x m) (take k (drop a (drop b f))) ≡ all_from (byte_below f (b + a) m) 0 k
  unfolding byte_below
  bytes_below a k m l =
      let e = bytes-long a k l in
      sym (all-index (λ x. ltb x m) 0 (byte_below f (b + a) m) (take k (drop a (drop b f))) 0
      (λ j q. ap (λ (x : ℕ). ltb x m) (ap (λ (x : ℕ). get_or f (b + a + x) 0) (omega arith) ∙ sym (byte-is a k j (omega arith)))))
      ∙ ap (all_from (byte_below f (b + a) m) 0) e

  -- type i's six bytes
  type-bytes : (i : ℕ) → i < h.types → get_or (pieces type_size h.types (drop (n * 9) (drop b f))) i [] ≡ take 6 (drop (types_at b n + 6 * i) f)
  type-bytes i l =
      piece-at 6 h.types (drop (n * 9) (drop b f)) i l ∙ rw (drop-drop (6 * i) (n * 9) (drop b f), drop-drop (n * 9 + 6 * i) b f, add_assoc b (n * 9) (6 * i))

  type-offset : (i : ℕ) → i < h.types → offset_in (take 6 (drop (types_at b n + 6 * i) f)) ≡ type_offset (be32 f (types_at b n + 6 * i))
  unfolding type_offset
  type-offset i l =
      let e : take 4 (take 6 (drop (types_at b n + 6 * i) f)) ≡ take 4 (drop (types_at b n + 6 * i) f) = take-take 4 6 (drop (types_at b n + 6 * i) f) (omega arith) in
      rw (e, ← at-4 f (types_at b n + 6 * i) (omega arith))

  type-is : (i : ℕ) → i < h.types → type_fits f (types_at b n) h.chars i ≡ type_ok h.chars (get_or (pieces type_size h.types (drop (n * 9) (drop b f))) i [])
  unfolding type_ok type_fits
  type-is i l =
      let g = drop (types_at b n + 6 * i) f in
      let c : get_or (take 6 g) 4 0 ≡ get_or f (types_at b n + 6 * i + 4) 0 = get_or-take 6 g 4 0 (omega arith) ∙ get_or-drop (types_at b n + 6 * i) f 4 0 in
      let d : get_or (take 6 g) 5 0 ≡ get_or f (types_at b n + 6 * i + 5) 0 = get_or-take 6 g 5 0 (omega arith) ∙ get_or-drop (types_at b n + 6 * i) f 5 0 in
      rw (type-bytes i l, c, d, type-offset i l)

  types_are : all (type_ok h.chars) (pieces type_size h.types (drop (n * 9) (drop b f))) ≡ all_from (type_fits f (types_at b n) h.chars) 0 h.types
  types_are =
      let e = pieces-length 6 h.types (drop (n * 9) (drop b f)) in
      sym (all-index (type_ok h.chars) [] (type_fits f (types_at b n) h.chars) (pieces type_size h.types (drop (n * 9) (drop b f))) 0
      (λ j q. ap (type_fits f (types_at b n) h.chars) (omega arith) ∙ type-is j (omega arith)))
      ∙ ap (all_from (type_fits f (types_at b n) h.chars) 0) e

  -- type i's offset
  offset-is : (i : ℕ) → i < h.types → get_or (map offset_in (pieces type_size h.types (drop (n * 9) (drop b f)))) i 0 ≡ type_offset (be32 f (types_at b n + 6 * i))
  offset-is i l =
      map_at offset_in (pieces type_size h.types (drop (n * 9) (drop b f))) i [] (omega (arith, pieces-length 6 h.types (drop (n * 9) (drop b f))))
      ∙ ap offset_in (type-bytes i l) ∙ type-offset i l

  -- the changes, where each type number is one
  block-changes : ((i : ℕ) → i < n → get_or f (kinds_at b n + i) 0 < h.types)
      → changes_of (map offset_in (pieces type_size h.types (drop (n * 9) (drop b f)))) (map (lifted 8) (words 8 n (drop b f))) (take n (drop (n * 8) (drop b f)))
      ≡ changes_at f (layout_at f b h)
  unfolding time_at offset_after layout_at
  block-changes k =
      let l = layout_at f b h in
      let offs = map offset_in (pieces type_size h.types (drop (n * 9) (drop b f))) in
      let ks = take n (drop (n * 8) (drop b f)) in
      let e = times_long in
      changes-are (time_at f l) (offset_after f l) offs (map (lifted 8) (words 8 n (drop b f))) ks 0
      (bytes-long (n * 8) n (omega arith) ∙ sym e)
      (λ j q. ap (λ (x : ℕ). x - (2 ^ 63 - epoch)) (key-is j (omega arith) ∙ ap (key_at f b) (omega arith)))
      (λ j q. let r : j < n = omega arith in
      let z : j ≡ 0 + j = omega arith in
      let w = byte-is (n * 8) n j r in
      let v = k j r in
      ap (λ (x : ℕ). get_or offs x 0) w ∙ offset-is (get_or f (kinds_at b n + j) 0) v
      ∙ ap (λ (x : ℕ). type_offset (be32 f (types_at b n + 6 * get_or f (kinds_at b n + x) 0))) z)
      ∙ ap (changes_from (time_at f l) (offset_after f l) 0) e

  -- the four tests of the tables
  tests-are : (M.rising (map (lifted 8) (words 8 n (drop b f)))
      && (all (λ k. ltb k h.types) (take n (drop (n * 8) (drop b f)))
      && (all (type_ok h.chars) (pieces type_size h.types (drop (n * 9) (drop b f)))
      && all (λ m. ltb m 2) (take (h.stds + h.uts) (drop (n * 9 + h.types * 6 + h.chars) (drop b f))))))
      ≡ tables_ok f b h
  unfolding tables_ok
  tests-are =
      rw (times-are, bytes_below (n * 8) n h.types (omega arith), types_are, bytes_below (n * 9 + h.types * 6 + h.chars) (h.stds + h.uts) 2 (omega arith))

  -- each type number of tables that pass is a type's
  kinds-below : tables_ok f b h ≡ true → (i : ℕ) → i < n → get_or f (kinds_at b n + i) 0 < h.types
  unfolding tables_ok byte_below
  kinds-below e i l =
      let marks = all_from (byte_below f (marks_at b h) 2) 0 (h.stds + h.uts) in
      let types = all_from (type_fits f (types_at b n) h.chars) 0 h.types in
      let kinds = all_from (byte_below f (kinds_at b n) h.types) 0 n in
      let p = and_both (times_rise f b n) (kinds && (types && marks)) e in
      let q = and_both kinds (types && marks) p.1 in
      ltb-true _ _ (all-at (byte_below f (kinds_at b n) h.types) n i q.0 l)

  -- the table of a block whose counts are right
  block-table : tables_ok f b h ≡ true → 1 ≤ h.types →
      ◌≡◌ {A = Table} (record {
        initial = get_or (map offset_in (pieces type_size h.types (drop (n * 9) (drop b f)))) 0 0;
        changes = changes_of (map offset_in (pieces type_size h.types (drop (n * 9) (drop b f)))) (map (lifted 8) (words 8 n (drop b f))) (take n (drop (n * 8) (drop b f)));
        line = take (length f - (tail_at b h + 2)) (drop (tail_at b h + 1) f);
      }) (table_at f (layout_at f b h))
  unfolding layout_at
  block-table e t =
      let z : types_at b n + 6 * 0 ≡ types_at b n = omega arith in
      rw (offset-is 0 t, z, block-changes (kinds-below e))

has-types : (h : Header) → counts_ok h ≡ true → 1 ≤ h.types
unfolding counts_ok
has-types h e =
    let a = and_both (is_in 1 256 h.types) _ e in
    leb-true _ _ (and_both (leb 1 h.types) (leb h.types 256) a.0).0

tail-in : (f : List ℕ) (t : ℕ) → tail_ok f t ≡ true → t + 1 < length f
unfolding tail_ok
tail-in f t e = ltb-true _ _ (and_both (ltb (t + 1) (length f)) (eqb (get_or f t 0) newline && eqb (get_or f (length f - 1) 0) newline) e).0

block-is : (f : List ℕ) (b : ℕ) (h : Head) → table_in (header_is h) (drop b f) ≡ given (block_ok f b h) (table_at f (layout_at f b h))
unfolding table_in block_ok
block-is f b h =
    by-test (counts_ok (header_is h))
    (λ c. rw (c, drop-drop (size_of 8 (header_is h)) b f, line-is f (tail_at b h))
    (by-test (tail_ok f (tail_at b h))
    (λ t. let i = tail-in f (tail_at b h) t in
    rw (t, tests-are f b h i)
    (by-test (tables_ok f b h) (λ e. rw e (ap some (block-table f b h i e (has-types (header_is h) c)))) (λ e. rw e)))
    (λ t. rw t)))
    (λ c. rw c)

first-version : (f : List ℕ) → (head_at f 0).version ≡ get_or f 4 0
unfolding head_at
first-version f = refl

-- behind two headers, the second of which is at s
rest-is : (f : List ℕ) (s : ℕ) →
    (need (eqb (head_at f 0).version (head_at f s).version) >>= λ _. table_in (header_is (head_at f s)) (drop 44 (drop s f)))
    ≡ given (eqb (get_or f 4 0) (head_at f s).version && block_ok f (s + 44) (head_at f s)) (table_at f (layout_at f (s + 44) (head_at f s)))
rest-is f s =
    rw (first-version f)
    (by-test (eqb (get_or f 4 0) (head_at f s).version)
    (λ e. rw (e, drop-drop 44 s f) (block-is f (s + 44) (head_at f s)))
    (λ e. rw e))

-- a file's table is there where the file is usable, and it is what the layout says
pub table_is : (f : List ℕ) → table_of f ≡ given (usable f) (table_at f (layout_of f))
unfolding table_of usable layout_of second_at
table_is f =
    let s = 44 + size_of 4 (header_is (head_at f 0)) in
    rw (head-is f 0)
    (by-test (head_ok f 0)
    (λ p. rw (p, head-is f s) (by-test (head_ok f s) (λ q. rw q (rest-is f s)) (λ q. rw q)))
    (λ p. rw p))

-- a block that passes ends before the file does
pub block_in : (f : List ℕ) (b : ℕ) (h : Head) → block_ok f b h ≡ true → tail_at b h + 1 < length f
unfolding block_ok
block_in f b h e =
    let p = and_both (counts_ok (header_is h)) (tail_ok f (tail_at b h) && tables_ok f b h) e in
    tail-in f (tail_at b h) (and_both (tail_ok f (tail_at b h)) (tables_ok f b h) p.1).0
