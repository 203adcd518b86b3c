-- The records of a book by index, and what the code's entries mean.
use mathlib.Core.Path.{◌≡◌, refl, sym, ap, ◌∙◌}
use mathlib.Core.Bool.{Bool, true, false, ◌&&◌}
use mathlib.Core.Option.{Option, none, some}
use mathlib.Core.List.{List, ◌∷◌, map}
use Prim.Native.Nat.{ℕ, zero, suc, ◌+◌, ◌*◌, ◌-◌, ◌≤◌, ◌<◌}
use native.Mathlib.Nat.{not-suc-le-zero}
use native.Mathlib.Numerals.{add-one}
use native.Mathlib.Omega.{arith}
use lib.Dec.{leb, ltb, eqb}
use lib.ListN.{length, get_or, take, drop, length-take, length-map}
use lib.Seq.{drop-drop, take-take, get_or-take, get_or-drop}
use borrow.Author.Tests.{leb-true, ltb-true, eqb-true, eqb-false, eq-eqb, ne_eqb}
use Rattle.big_endian.specs.Be.{two_bytes, be16, be32}
use Rattle.big_endian.specs.Maybe.{is_some, or_empty}
use Rattle.big_endian.specs.Walk.{both, all_from}
use Rattle.big_endian.proofs.Walk.{all-at}
use Rattle.laws_base.specs.Test.{by-test, and_both, clash}
use Rattle.model.specs.Basic.{◌>>=◌, given, each, run}
use Rattle.model.specs.Directory.{parts_of}
use Rattle.model.specs.Book as model
use Rattle.model.specs.Book.{holidays, dates, entry_of, entries_of}
use Rattle.directory.specs.Directory.{entry_count, start_at, len_at, part_at, dir_ok}
use Rattle.directory.proofs.Parts.{parts-index, some-given, as-dir, drop-take, run_at, inside-from, entries-hold}
use Rattle.civil.specs.declared.Time.{Time}
use Rattle.book_dates.specs.Days.{is_day, HasDates}
use Rattle.book_dates.proofs.Dates.{length-dates}
use Rattle.book_dates.proofs.Reading.{date_test, day-says, dates_test, days-says}
use Rattle.book.specs.declared.Entry.{Entry}
use Rattle.book.specs.Meaning.{records_of, written_year, day_at, dates_at, body_in, meaning, kind_of, time_written, entry_from, bytes_at, no_entry, IsTimed, IsEntry, kind_at, dates_in}
use Rattle.book.specs.Accepts.{is_time, is_hours, are_days, is_dates, is_body, is_record, is_record_at, is_book}
use Rattle.book.proofs.Bytes.{time_test, time_value, hours_test, hours_value, time-says, hours-says, holidays_test, pick_body, body_test, body_value, record_test, record_value, dates-says, body-says, record-says, entry-is}
use Rattle.model.specs.Instant.{day_seconds, second}

-- ---- the book by index

unfoldable pub value_at : List ℕ → ℕ → model.Entry
value_at b i = record_value (start_at b i) (bytes_at b i)

given-cons : {A : Type 0} (t u : Bool) (a : A) (r : List A) → (given t a >>= λ b. given u r >>= λ s. some (b ∷ s)) ≡ given (both t u) (a ∷ r)
given-cons true true a r = refl
given-cons true false a r = refl
given-cons false u a r = refl

entry_at : (b : List ℕ) (i : ℕ) → entry_of (part_at b i) ≡ given (is_record_at b i) (value_at b i)
unfolding part_at value_at bytes_at
entry_at b i = entry-is (start_at b i) (take (len_at b i) (drop (start_at b i) b))

each-entry : (b : List ℕ) (k i : ℕ) → each entry_of (map (part_at b) (run i k)) ≡ given (all_from (is_record_at b) i k) (map (value_at b) (run i k))
unfolding each run all_from
each-entry b zero i = refl
each-entry b (suc k) i =
    let r : each entry_of (map (part_at b) (run (suc i) k)) ≡ given (all_from (is_record_at b) (i + 1) k) (map (value_at b) (run (suc i) k)) =
    rw (← add-one i) (each-entry b k (i + 1)) in
    rw (entry_at b i, r) (given-cons (is_record_at b i) (all_from (is_record_at b) (i + 1) k) (value_at b i) (map (value_at b) (run (suc i) k)))

unfoldable pub book_test : List ℕ → Bool
book_test b = dir_ok b && all_from (is_record_at b) 0 (entry_count b)

pub book-is : (b : List ℕ) → entries_of b ≡ given (book_test b) (map (value_at b) (run 0 (entry_count b)))
unfolding entries_of book_test
book-is b = by-test (dir_ok b) (λ e. rw (parts-index b, e) (each-entry b (entry_count b) 0)) (λ e. rw (parts-index b, e))

-- r is what the code's test gives
pub book-says : (b : List ℕ) {r : Bool} → r ≡ book_test b → r ≡ is_book b
unfolding is_book
book-says b e = e ∙ some-given (book_test b) (map (value_at b) (run 0 (entry_count b))) ∙ ap is_some (sym (book-is b))

module _ (b : List ℕ) {r : Bool} (d : r ≡ is_some (parts_of b)) where
  pub book-no : r ≡ false → false ≡ is_book b
  unfolding book_test
  book-no q = let e : dir_ok b ≡ false = as-dir b refl ∙ sym d ∙ q in book-says b (rw e)

  pub book-yes : {n : ℕ} {t : Bool} → r ≡ true → n ≡ entry_count b → t ≡ all_from (is_record_at b) 0 n → t ≡ is_book b
  unfolding book_test
  book-yes q en k = let e : dir_ok b ≡ true = as-dir b refl ∙ sym d ∙ q in book-says b (rw (e, ← en) k)

-- ---- a book that keeps its layout

length_run : (i k : ℕ) → length (run i k) ≡ k
unfolding run
length_run i zero = refl
length_run i (suc k) = ap suc (length_run (suc i) k)

module _ (b : List ℕ) (h : is_book b ≡ true) where
  tested : (dir_ok b ≡ true) × (all_from (is_record_at b) 0 (entry_count b) ≡ true)
  unfolding book_test
  tested = and_both (dir_ok b) (all_from (is_record_at b) 0 (entry_count b)) (book-says b refl ∙ h)

  records-are : records_of b ≡ map (value_at b) (run 0 (entry_count b))
  unfolding book_test
  records-are = rw (book-is b, tested.0, tested.1)

  pub count-is : entry_count b ≡ length (records_of b)
  count-is = sym (ap length records-are ∙ length-map (run 0 (entry_count b)) (value_at b) ∙ length_run 0 (entry_count b))

  module _ (i : ℕ) (l : i < entry_count b) where
    pub value-is : get_or (records_of b) i no_entry ≡ value_at b i
    value-is = let e : 0 + i ≡ i = omega arith in ap (λ (r : List model.Entry). get_or r i no_entry) records-are ∙ run_at (value_at b) no_entry (entry_count b) 0 i l ∙ rw e

    pub record_is : is_record (bytes_at b i) ≡ true
    record_is = all-at (is_record_at b) (entry_count b) i tested.1 l

    pub ends-in : start_at b i + len_at b i ≤ length b
    ends-in = let e : 0 + i ≡ i = omega arith in rw e at (inside-from b (entry_count b) (4 + 8 * entry_count b) 0 i (entries-hold b tested.0).1 l)

-- ---- from the bytes of a record to those of the book

-- the record of at most k bytes that stands at o
module _ (b : List ℕ) (o k : ℕ) where
  short : length (take k (drop o b)) ≤ k
  short = omega (arith, length-take k (drop o b))

  byte-moved : (j m : ℕ) → j < length (take k (drop o b)) → m ≡ o + j → get_or b m 0 ≡ get_or (take k (drop o b)) j 0
  byte-moved j m h e = rw (e, get_or-take k (drop o b) j 0 (omega (arith, short)), get_or-drop o b j 0)

  day-moved : (q m : ℕ) → q + 4 ≤ length (take k (drop o b)) → m ≡ o + q → day_at b m ≡ day_at (take k (drop o b)) q
  unfolding day_at written_year be16
  day-moved q m h e =
      rw (
        byte-moved q m (omega arith) e,
        byte-moved (q + 1) (m + 1) (omega arith) (omega arith),
        byte-moved (q + 2) (m + 2) (omega arith) (omega arith),
        byte-moved (q + 3) (m + 3) (omega arith) (omega arith),
      )

  dates-moved : (n q m : ℕ) → q + 4 * n ≤ length (take k (drop o b)) → m ≡ o + q → dates_at b m n ≡ dates_at (take k (drop o b)) q n
  unfolding dates_at
  dates-moved zero q m h e = refl
  dates-moved (suc n) q m h e = rw (day-moved q m (omega arith) e, dates-moved n (q + 4) (m + 4) (omega arith) (omega arith))

  -- the tests of a date and of n dates
  test-moved : o + k ≤ length b → (q m : ℕ) → q + 4 ≤ length (take k (drop o b)) → m ≡ o + q → is_day b m ≡ is_day (take k (drop o b)) q
  unfolding date_test written_year be16
  test-moved i q m h e =
      sym (day-says b m (omega (arith, short)) refl)
      ∙ rw (
        byte-moved q m (omega arith) e,
        byte-moved (q + 1) (m + 1) (omega arith) (omega arith),
        byte-moved (q + 2) (m + 2) (omega arith) (omega arith),
        byte-moved (q + 3) (m + 3) (omega arith) (omega arith),
      )
      (day-says (take k (drop o b)) q h refl)

  tests-moved : o + k ≤ length b → (n q m : ℕ) → q + 4 * n ≤ length (take k (drop o b)) → m ≡ o + q → dates_test b m n ≡ dates_test (take k (drop o b)) q n
  unfolding dates_test
  tests-moved i zero q m h e = refl
  tests-moved i (suc n) q m h e = rw (test-moved i q m (omega arith) e, tests-moved i n (q + 4) (m + 4) (omega arith) (omega arith))

  name-moved : (n q m : ℕ) → q + n ≤ length (take k (drop o b)) → m ≡ o + q → take n (drop m b) ≡ take n (drop q (take k (drop o b)))
  name-moved n q m h e = rw (e, drop-take q k (drop o b) (omega (arith, short)), take-take n (k - q) (drop q (drop o b)) (omega (arith, short)), drop-drop q o b)

-- ---- what an entry means

-- a body of a kind that is not 0, 1 or 2 is of kind 3 and has whole dates
dates-whole : (kind : ℕ) (l : List ℕ) (p : ℕ) → p ≤ length l → is_body kind l p ≡ true → eqb kind 0 ≡ false → eqb kind 1 ≡ false → eqb kind 2 ≡ false →
    (kind ≡ 3) × (p + 2 + 4 * be16 l p ≡ length l) × (are_days l (p + 2) (be16 l p) ≡ true)
unfolding body_test holidays_test
dates-whole kind l p h t e₀ e₁ e₂ =
    by-test (eqb kind 3)
    (λ e.
    let d : is_dates l p ≡ true = rw (e₀, e₁, e₂, e) at (body-says kind l p h refl ∙ t) in
    let q = and_both (leb (p + 2) (length l)) (eqb (length l) (p + 2 + 4 * be16 l p) && are_days l (p + 2) (be16 l p)) (dates-says l p h refl ∙ d) in
    let f = and_both (eqb (length l) (p + 2 + 4 * be16 l p)) (are_days l (p + 2) (be16 l p)) q.1 in
    (eqb-true kind 3 e, sym (eqb-true (length l) (p + 2 + 4 * be16 l p) f.0), f.1))
    (λ e. let d : false ≡ true = rw (e₀, e₁, e₂, e) at (body-says kind l p h refl ∙ t) in clash false d refl)

kind-few : (kind : ℕ) (l : List ℕ) (p : ℕ) → p ≤ length l → is_body kind l p ≡ true → kind ≤ 3
kind-few kind l p h t =
    by-test (eqb kind 0)
    (λ e. let q : kind ≡ 0 = eqb-true kind 0 e in omega arith)
    (λ e₀. by-test (eqb kind 1)
    (λ e. let q : kind ≡ 1 = eqb-true kind 1 e in omega arith)
    (λ e₁. by-test (eqb kind 2)
    (λ e. let q : kind ≡ 2 = eqb-true kind 2 e in omega arith)
    (λ e₂. omega (arith, (dates-whole kind l p h t e₀ e₁ e₂).0))))

-- the name is short and inside, and the body is one
record-facts : (l : List ℕ) → is_record l ≡ true → (get_or l 1 0 ≤ 64) × (2 + get_or l 1 0 ≤ length l) × (is_body (get_or l 0 0) l (2 + get_or l 1 0) ≡ true)
unfolding record_test
record-facts l t =
    let n = get_or l 1 0 in
    let a = and_both (leb n 64) (leb (2 + n) (length l) && is_body (get_or l 0 0) l (2 + n)) (record-says l refl ∙ t) in
    let c = and_both (leb (2 + n) (length l)) (is_body (get_or l 0 0) l (2 + n)) a.1 in
    (leb-true n 64 a.0, leb-true (2 + n) (length l) c.0, c.1)

module _ (b : List ℕ) (o k : ℕ) (h : o + k ≤ length b) (t : is_record (take k (drop o b)) ≡ true) where
  body-means : body_in b (entry_from o (take k (drop o b))) ≡ body_value (get_or (take k (drop o b)) 0 0) (take k (drop o b)) (2 + get_or (take k (drop o b)) 1 0)
  unfolding entry_from body_value hours_value time_value time_written
  body-means =
      let l = take k (drop o b) in
      let kind = get_or l 0 0 in
      let p = 2 + get_or l 1 0 in
      let f = record-facts l t in
      by-test (eqb kind 0) (λ e₀. rw e₀)
      (λ e₀. by-test (eqb kind 1) (λ e₁. rw (e₀, e₁))
      (λ e₁. by-test (eqb kind 2) (λ e₂. rw (e₀, e₁, e₂))
      (λ e₂.
      let w = dates-whole kind l p f.1 f.2 e₀ e₁ e₂ in
      rw (e₀, e₁, e₂) (ap holidays (dates-moved b o k (be16 l p) (p + 2) (o + (p + 2)) (omega (arith, w.1)) refl)))))

  means-record : meaning b (entry_from o (take k (drop o b))) ≡ record_value o (take k (drop o b))
  unfolding meaning entry_from record_value
  means-record =
      let l = take k (drop o b) in
      let f = record-facts l t in
      let n : take (get_or l 1 0) (drop (o + 2) b) ≡ take (get_or l 1 0) (drop 2 l) = name-moved b o k (get_or l 1 0) 2 (o + 2) f.1 refl in
      λ i. record { place = o; name = n i; body = body-means i }

has-book : (b : List ℕ) (i : ℕ) → i < length (records_of b) → is_book b ≡ true
unfolding is_book
has-book b i h = go (entries_of b) h
  where
    go : (m : Option (List model.Entry)) → i < length (or_empty m) → is_some m ≡ true
    go none l = absurd (not-suc-le-zero l)
    go (some r) l = refl

-- a record of kind 3 has dates, in the book
dates-in : (b : List ℕ) (o k : ℕ) → o + k ≤ length b → is_record (take k (drop o b)) ≡ true → (entry_from o (take k (drop o b))).kind ≡ 3 →
    HasDates b (entry_from o (take k (drop o b))).dates (entry_from o (take k (drop o b))).count
unfolding entry_from
dates-in b o k h t e =
    let l = take k (drop o b) in
    let kind = get_or l 0 0 in
    let p = 2 + get_or l 1 0 in
    let f = record-facts l t in
    let w = dates-whole kind l p f.1 f.2 (rw e) (rw e) (rw e) in
    let n = be16 l p in
    let i : o + (p + 2) + 4 * n ≤ length b = omega (arith, w.1, short b o k) in
    let m : dates_test b (o + (p + 2)) n ≡ dates_test l (p + 2) n = tests-moved b o k h n (p + 2) (o + (p + 2)) (omega (arith, w.1)) refl in
    (i, sym (days-says b (o + (p + 2)) n i refl) ∙ m ∙ days-says l (p + 2) n (omega (arith, w.1)) refl ∙ w.2)

name-end : (b : List ℕ) (o k : ℕ) → o + k ≤ length b → is_record (take k (drop o b)) ≡ true →
    (entry_from o (take k (drop o b))).name + (entry_from o (take k (drop o b))).letters ≤ length b
unfolding entry_from
name-end b o k h t = omega (arith, (record-facts (take k (drop o b)) t).1, short b o k)

kind-in : (b : List ℕ) (o k : ℕ) → is_record (take k (drop o b)) ≡ true → (entry_from o (take k (drop o b))).kind ≤ 3
unfolding entry_from
kind-in b o k t =
    let l = take k (drop o b) in
    let f = record-facts l t in
    kind-few (get_or l 0 0) l (2 + get_or l 1 0) f.1 f.2

-- the bounds of a time of day, and of a work or break record
time-facts : (l : List ℕ) (p : ℕ) → p + 8 ≤ length l → is_time l p ≡ true → (be32 l p < day_seconds) × (be32 l (p + 4) < second)
unfolding time_test
time-facts l p h t =
    let a = and_both (ltb (be32 l p) day_seconds) (ltb (be32 l (p + 4)) second) (time-says l p h refl ∙ t) in
    (ltb-true (be32 l p) day_seconds a.0, ltb-true (be32 l (p + 4)) second a.1)

hours-facts : (l : List ℕ) (p : ℕ) → p ≤ length l → is_hours l p ≡ true →
    (get_or l p 0 < 128) × ((be32 l (p + 1) < day_seconds) × (be32 l (p + 1 + 4) < second)) × ((be32 l (p + 9) < day_seconds) × (be32 l (p + 9 + 4) < second))
unfolding hours_test
hours-facts l p h t =
    let a = and_both (eqb (length l) (p + 17)) (ltb (get_or l p 0) 128 && (is_time l (p + 1) && is_time l (p + 9))) (hours-says l p h refl ∙ t) in
    let k : length l ≡ p + 17 = eqb-true (length l) (p + 17) a.0 in
    let c = and_both (ltb (get_or l p 0) 128) (is_time l (p + 1) && is_time l (p + 9)) a.1 in
    let d = and_both (is_time l (p + 1)) (is_time l (p + 9)) c.1 in
    (ltb-true (get_or l p 0) 128 c.0, time-facts l (p + 1) (omega arith) d.0, time-facts l (p + 9) (omega arith) d.1)

hours-of : (kind : ℕ) (l : List ℕ) (p : ℕ) → p ≤ length l → is_body kind l p ≡ true → 1 ≤ kind → kind ≤ 2 → is_hours l p ≡ true
unfolding body_test
hours-of kind l p h t a c =
    let e₀ : eqb kind 0 ≡ false = ne_eqb kind 0 (λ q. omega arith) in
    by-test (eqb kind 1)
    (λ e. rw (e₀, e) at (body-says kind l p h refl ∙ t))
    (λ e₁.
    let n₁ = eqb-false kind 1 e₁ in
    let e₂ : eqb kind 2 ≡ true = eq-eqb kind 2 (omega arith) in
    rw (e₀, e₁, e₂) at (body-says kind l p h refl ∙ t))

timed-in : (b : List ℕ) (o k : ℕ) → is_record (take k (drop o b)) ≡ true → 1 ≤ (entry_from o (take k (drop o b))).kind → (entry_from o (take k (drop o b))).kind ≤ 2 →
    IsTimed (entry_from o (take k (drop o b)))
unfolding entry_from time_written
timed-in b o k t x y =
    let l = take k (drop o b) in
    let f = record-facts l t in
    let p = 2 + get_or l 1 0 in
    let q = hours-facts l p f.1 (hours-of (get_or l 0 0) l p f.1 f.2 x y) in
    record { days = q.0; start-seconds = q.1.0; start-nanos = q.1.1; end-seconds = q.2.0; end-nanos = q.2.1 }

-- the entry that the code makes of what it reads
pub entry_read : (o : ℕ) (l : List ℕ) {n k d c : ℕ} {s f : Time} → n ≡ get_or l 1 0 → k ≡ get_or l 0 0 → d ≡ get_or l (2 + n) 0 → s ≡ time_written l (2 + n + 1) →
    f ≡ time_written l (2 + n + 9) → c ≡ be16 l (2 + n) →
    record { kind = k; place = o; name = o + 2; letters = n; days = d; start = s; end = f; dates = o + (2 + n + 2); count = c } ≡ entry_from o l
unfolding entry_from
entry_read o l en ek ed es ef ec = rw (ek, ed, es, ef, ec, en)

-- the entry that the code reads
pub is-entry : (b : List ℕ) (i : ℕ) {o : ℕ} {l : List ℕ} {e : Entry} → i < length (records_of b) → o ≡ start_at b i → l ≡ bytes_at b i → e ≡ entry_from o l →
    e.count < two_bytes → IsEntry b i e
unfolding bytes_at value_at
is-entry b i {o} {l} {e} h eo el ee few =
    let t : is_book b ≡ true = has-book b i h in
    let c : i < entry_count b = omega (arith, count-is b t) in
    let a = start_at b i in
    let n = len_at b i in
    let q : a + n ≤ length b = ends-in b t i c in
    let r : is_record (take n (drop a b)) ≡ true = record_is b t i c in
    let x : e ≡ entry_from a (take n (drop a b)) = ee ∙ rw (eo, el) in
    rw x
    (record {
      means = means-record b a n q r ∙ sym (value-is b t i c);
      kind = kind-in b a n r;
      name = name-end b a n q r;
      dates = dates-in b a n q r;
      few = rw x at few;
      timed = timed-in b a n r;
    })

-- ---- the kind of a record and the count of its dates, read from the book

kind-picked : (l : List ℕ) (p kind : ℕ) → kind ≤ 3 → kind_of (pick_body l p kind) ≡ kind
kind-picked l p kind h =
    by-test (eqb kind 0)
    (λ q. rw q (sym (eqb-true kind 0 q)))
    (λ q₀. by-test (eqb kind 1)
    (λ q. rw (q₀, q) (sym (eqb-true kind 1 q)))
    (λ q₁. by-test (eqb kind 2)
    (λ q. rw (q₀, q₁, q) (sym (eqb-true kind 2 q)))
    (λ q₂.
    let n₀ = eqb-false kind 0 q₀ in
    let n₁ = eqb-false kind 1 q₁ in
    let n₂ = eqb-false kind 2 q₂ in
    rw (q₀, q₁, q₂) (omega arith))))

module _ (b : List ℕ) (i : ℕ) (h : i < length (records_of b)) where
  abbrev at : ℕ
  at = start_at b i

  abbrev own_record : List ℕ
  own_record = take (len_at b i) (drop (start_at b i) b)

  inside : i < entry_count b
  inside = omega (arith, count-is b (has-book b i h))

  whole : is_record (take (len_at b i) (drop (start_at b i) b)) ≡ true
  unfolding bytes_at
  whole = record_is b (has-book b i h) i inside

  body_is : (get_or (records_of b) i no_entry).body ≡ pick_body own_record (2 + get_or own_record 1 0) (get_or own_record 0 0)
  unfolding value_at bytes_at record_value body_value
  body_is = ap (λ (x : model.Entry). x.body) (value-is b (has-book b i h) i inside)

  first_byte : kind_at b i ≡ get_or own_record 0 0
  unfolding kind_at
  first_byte =
      let f = record-facts own_record whole in
      rw body_is (kind-picked own_record (2 + get_or own_record 1 0) (get_or own_record 0 0) (kind-few (get_or own_record 0 0) own_record (2 + get_or own_record 1 0) f.1 f.2))

  pub kind-read : {k : ℕ} → k ≡ get_or b (start_at b i) 0 → k ≡ kind_at b i
  kind-read e =
      let f = record-facts own_record whole in
      e ∙ byte-moved b at (len_at b i) 0 at (omega (arith, f.1)) (omega arith) ∙ sym first_byte

  dates-are : kind_at b i ≡ 3 → dates_in b i ≡ be16 own_record (2 + get_or own_record 1 0)
  unfolding dates_in
  dates-are q =
      let k : get_or own_record 0 0 ≡ 3 = sym first_byte ∙ q in
      rw (body_is, k) (length-dates own_record (2 + get_or own_record 1 0 + 2) (be16 own_record (2 + get_or own_record 1 0)))

  pub dates-read : {n c : ℕ} → kind_at b i ≡ 3 → n ≡ get_or b (start_at b i + 1) 0 → c ≡ be16 b (start_at b i + 2 + n) → c ≡ dates_in b i
  unfolding be16
  dates-read {n} {c} q en ec =
      let l = own_record in
      let f = record-facts l whole in
      let k : get_or l 0 0 ≡ 3 = sym first_byte ∙ q in
      let w = dates-whole (get_or l 0 0) l (2 + get_or l 1 0) f.1 f.2 (rw k) (rw k) (rw k) in
      let m : n ≡ get_or l 1 0 = en ∙ byte-moved b at (len_at b i) 1 (at + 1) (omega (arith, f.1)) refl in
      let x : get_or b (at + 2 + n) 0 ≡ get_or l (2 + get_or l 1 0) 0 = byte-moved b at (len_at b i) (2 + get_or l 1 0) (at + 2 + n) (omega (arith, w.1)) (omega arith) in
      let y : get_or b (at + 2 + n + 1) 0 ≡ get_or l (2 + get_or l 1 0 + 1) 0 = byte-moved b at (len_at b i) (2 + get_or l 1 0 + 1) (at + 2 + n + 1) (omega (arith, w.1)) (omega arith) in
      let d : dates_in b i ≡ get_or l (2 + get_or l 1 0) 0 * 256 + get_or l (2 + get_or l 1 0 + 1) 0 = dates-are q in
      omega arith
