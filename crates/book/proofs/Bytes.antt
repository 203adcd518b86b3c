-- The layout of a record's bytes, l, as tests and values at places of l, and that they are those of the crate `model`.
-- Each parser of `model` gives its value where its test passes.
use Rattle.std.specs.Prelude.{if◌then◌else◌}
use mathlib.Core.Path.{◌≡◌, refl, sym, ◌∙◌}
use mathlib.Core.Bool.{Bool, true, false, ◌&&◌}
use mathlib.Core.Option.{none, some}
use mathlib.Core.List.{List, ◌∷◌}
use Prim.Native.Nat.{ℕ, suc, ◌+◌, ◌*◌, ◌-◌, ◌≤◌, ◌<◌}
use native.Mathlib.Numerals.{add-one}
use native.Mathlib.Omega.{arith}
use lib.Dec.{leb, ltb, eqb}
use lib.ListN.{length, get_or, take, drop, length-drop, drop_of_length-le}
use lib.Seq.{drop-cons, drop-drop}
use borrow.Author.Tests.{le-leb, lt-leb, eq-eqb, ne_eqb, eqb-true, eqb-false, leb-true, leb-false}
use native.Mathlib.Decide.{dec_le}
use Rattle.big_endian.specs.Be.{be16, be32}
use Rattle.big_endian.proofs.Lists.{at-2, at-4}
use Rattle.book_dates.proofs.Reading.{is-given, days-is}
use Rattle.laws_base.specs.Test.{by-test}
use Rattle.model.specs.Basic.{◌>>=◌, given, need}
use Rattle.model.specs.Bytes.{be}
use Rattle.model.specs.Directory.{Part}
use Rattle.model.specs.Book as model
use Rattle.model.specs.Book.{Hours, Body, default, work, pause, holidays, time_of, hours_of, dates_of, body_of, entry_of}
use Rattle.book.specs.Meaning.{dates_at}
use Rattle.book.specs.Accepts.{is_time, is_hours, are_days, is_dates, is_body, is_record}
use Rattle.model.specs.Instant.{day_seconds, second}

-- ---- answers that are given under a test

-- a test and two answers, one after the other
given-two : {A B C : Type 0} (t u v : Bool) (a : A) (b : B) (f : A → B → C) →
    (need (t && true) >>= λ _. given u a >>= λ x. given v b >>= λ y. some (f x y)) ≡ given (t && (u && v)) (f a b)
given-two true true true a b f = refl
given-two true true false a b f = refl
given-two true false v a b f = refl
given-two false u v a b f = refl

-- ---- a time of day

unfoldable pub time_test : List ℕ → ℕ → Bool
time_test l p = ltb (be32 l p) day_seconds && ltb (be32 l (p + 4)) second

unfoldable pub time_value : List ℕ → ℕ → ℕ
time_value l p = be32 l p * second + be32 l (p + 4)

time-given : (l : List ℕ) (p : ℕ) → p + 8 ≤ length l → time_of (drop p l) ≡ given (time_test l p) (time_value l p)
unfolding time_of time_test time_value
time-given l p h =
    let a : be32 l p ≡ be 4 (drop p l) = at-4 l p (omega arith) in
    let b : be32 l (p + 4) ≡ be 4 (drop (p + 4) l) = at-4 l (p + 4) (omega arith) in
    rw (drop-drop 4 p l, ← a, ← b)

pub time-says : (l : List ℕ) (p : ℕ) {t : Bool} → p + 8 ≤ length l → t ≡ time_test l p → t ≡ is_time l p
unfolding is_time
time-says l p h e = e ∙ sym (is-given (time_of (drop p l)) (time_test l p) (time_value l p) (time-given l p h)).0

time-is : (l : List ℕ) (p : ℕ) → p + 8 ≤ length l → time_of (drop p l) ≡ given (is_time l p) (time_value l p)
unfolding is_time
time-is l p h = (is-given (time_of (drop p l)) (time_test l p) (time_value l p) (time-given l p h)).1

-- ---- weekdays and two times

unfoldable pub hours_test : List ℕ → ℕ → Bool
hours_test l p = eqb (length l) (p + 17) && (ltb (get_or l p 0) 128 && (is_time l (p + 1) && is_time l (p + 9)))

unfoldable pub hours_value : List ℕ → ℕ → Hours
hours_value l p = record { days = get_or l p 0; from = time_value l (p + 1); to = time_value l (p + 9) }

-- one byte and two times: what is behind the byte is 16 bytes long
hours-cons : (l : List ℕ) (p : ℕ) → length l ≡ p + 17 →
    hours_of (get_or l p 0 ∷ drop (p + 1) l) ≡ given (ltb (get_or l p 0) 128 && (is_time l (p + 1) && is_time l (p + 9))) (hours_value l p)
unfolding hours_of hours_value
hours-cons l p h =
    let k : length (drop (p + 1) l) ≡ 16 = length-drop (p + 1) l ∙ omega arith in
    let a : time_of (drop (p + 1) l) ≡ given (is_time l (p + 1)) (time_value l (p + 1)) = time-is l (p + 1) (omega arith) in
    let b : time_of (drop (p + 9) l) ≡ given (is_time l (p + 9)) (time_value l (p + 9)) = time-is l (p + 9) (omega arith) in
    let e : p + 1 + 8 ≡ p + 9 = omega arith in
    rw (k, drop-drop 8 (p + 1) l, e, a, b)
    (given-two (ltb (get_or l p 0) 128) (is_time l (p + 1)) (is_time l (p + 9)) (time_value l (p + 1)) (time_value l (p + 9))
    (λ x y. record { days = get_or l p 0; from = x; to = y }))

-- a body of another length is none
hours-none : (d : ℕ) (l : List ℕ) → eqb (length l) 16 ≡ false → hours_of (d ∷ l) ≡ none
unfolding hours_of
hours-none d l h = rw h (by-test (ltb d 128) (λ e. rw e) (λ e. rw e))

hours-other : (l : List ℕ) (p : ℕ) → p ≤ length l → (length l ≡ p + 17 → ⊥) → hours_of (drop p l) ≡ none
unfolding hours_of
hours-other l p h n = go (dec_le (length l) p)
  where
    go : Dec (length l ≤ p) → hours_of (drop p l) ≡ none
    go (yes e) = rw (drop_of_length-le l e)
    go (no e) =
        rw (drop-cons l p 0 (omega arith))
        (hours-none (get_or l p 0) (drop (suc p) l) (ne_eqb (length (drop (suc p) l)) 16 (λ q. n (omega (arith, length-drop (suc p) l)))))

hours-given : (l : List ℕ) (p : ℕ) → p ≤ length l → hours_of (drop p l) ≡ given (hours_test l p) (hours_value l p)
unfolding hours_test
hours-given l p h =
    by-test (eqb (length l) (p + 17))
    (λ e. let k : length l ≡ p + 17 = eqb-true (length l) (p + 17) e in
    rw (e, drop-cons l p 0 (omega arith), ← add-one p) (hours-cons l p k))
    (λ e. rw e (hours-other l p h (eqb-false (length l) (p + 17) e)))

pub hours-says : (l : List ℕ) (p : ℕ) {t : Bool} → p ≤ length l → t ≡ hours_test l p → t ≡ is_hours l p
unfolding is_hours
hours-says l p h e = e ∙ sym (is-given (hours_of (drop p l)) (hours_test l p) (hours_value l p) (hours-given l p h)).0

hours-is : (l : List ℕ) (p : ℕ) → p ≤ length l → hours_of (drop p l) ≡ given (is_hours l p) (hours_value l p)
unfolding is_hours
hours-is l p h = (is-given (hours_of (drop p l)) (hours_test l p) (hours_value l p) (hours-given l p h)).1

-- ---- dates

unfoldable pub holidays_test : List ℕ → ℕ → Bool
holidays_test l p = leb (p + 2) (length l) && (eqb (length l) (p + 2 + 4 * be16 l p) && are_days l (p + 2) (be16 l p))

dates-given : (l : List ℕ) (p : ℕ) → p ≤ length l → dates_of (drop p l) ≡ given (holidays_test l p) (dates_at l (p + 2) (be16 l p))
unfolding dates_of holidays_test
dates-given l p h =
    let k : length (drop p l) ≡ length l - p = length-drop p l in
    by-test (leb (p + 2) (length l))
    (λ e. let i : p + 2 ≤ length l = leb-true (p + 2) (length l) e in
    let a : be16 l p ≡ be 2 (drop p l) = at-2 l p i in
    by-test (eqb (length l) (p + 2 + 4 * be16 l p))
    (λ f. let j : length l ≡ p + 2 + 4 * be16 l p = eqb-true (length l) (p + 2 + 4 * be16 l p) f in
    rw (e, f, ← a, drop-drop 2 p l, le-leb 2 (length (drop p l)) (omega arith), eq-eqb (length (drop p l)) (2 + 4 * be16 l p) (omega arith))
    (days-is l (p + 2) (be16 l p) (omega arith)))
    (λ f. let j : length l ≡ p + 2 + 4 * be16 l p → ⊥ = eqb-false (length l) (p + 2 + 4 * be16 l p) f in
    rw (e, f, ← a, le-leb 2 (length (drop p l)) (omega arith), ne_eqb (length (drop p l)) (2 + 4 * be16 l p) (λ q. j (omega arith)))))
    (λ e. let i : length l < p + 2 = leb-false (p + 2) (length l) e in
    rw (e, lt-leb 2 (length (drop p l)) (omega arith)))

pub dates-says : (l : List ℕ) (p : ℕ) {t : Bool} → p ≤ length l → t ≡ holidays_test l p → t ≡ is_dates l p
unfolding is_dates
dates-says l p h e = e ∙ sym (is-given (dates_of (drop p l)) (holidays_test l p) (dates_at l (p + 2) (be16 l p)) (dates-given l p h)).0

dates-is : (l : List ℕ) (p : ℕ) → p ≤ length l → dates_of (drop p l) ≡ given (is_dates l p) (dates_at l (p + 2) (be16 l p))
unfolding is_dates
dates-is l p h = (is-given (dates_of (drop p l)) (holidays_test l p) (dates_at l (p + 2) (be16 l p)) (dates-given l p h)).1

-- ---- a record's body, and the record

abbrev pub pick_body : List ℕ → ℕ → ℕ → Body
pick_body l p kind =
    if eqb kind 0 then default else
    if eqb kind 1 then work (hours_value l p) else
    if eqb kind 2 then pause (hours_value l p) else
    holidays (dates_at l (p + 2) (be16 l p))

unfoldable pub body_test : ℕ → List ℕ → ℕ → Bool
body_test kind l p =
    if eqb kind 0 then eqb (length l) p else
    if eqb kind 1 then is_hours l p else
    if eqb kind 2 then is_hours l p else
    if eqb kind 3 then is_dates l p else false

unfoldable pub body_value : ℕ → List ℕ → ℕ → Body
body_value kind l p = pick_body l p kind

given-map : {A B : Type 0} (t : Bool) (a : A) (f : A → B) → (given t a >>= λ x. some (f x)) ≡ given t (f a)
given-map true a f = refl
given-map false a f = refl

body-given : (kind : ℕ) (l : List ℕ) (p : ℕ) → p ≤ length l → body_of kind (drop p l) ≡ given (body_test kind l p) (body_value kind l p)
unfolding body_of body_test body_value
body-given kind l p h =
    by-test (eqb kind 0)
    (λ a. let e : eqb (length (drop p l)) 0 ≡ eqb (length l) p = none_left in rw (a, e))
    (λ a. by-test (eqb kind 1)
    (λ b. rw (a, b, hours-is l p h) (given-map (is_hours l p) (hours_value l p) work))
    (λ b. by-test (eqb kind 2)
    (λ c. rw (a, b, c, hours-is l p h) (given-map (is_hours l p) (hours_value l p) pause))
    (λ c. by-test (eqb kind 3)
    (λ d. rw (a, b, c, d, dates-is l p h) (given-map (is_dates l p) (dates_at l (p + 2) (be16 l p)) holidays))
    (λ d. rw (a, b, c, d)))))
  where
    none_left : eqb (length (drop p l)) 0 ≡ eqb (length l) p
    none_left =
        by-test (eqb (length l) p)
        (λ e. let q : length l ≡ p = eqb-true (length l) p e in rw (e, eq-eqb (length (drop p l)) 0 (omega (arith, length-drop p l))))
        (λ e. let q : length l ≡ p → ⊥ = eqb-false (length l) p e in
        rw (e, ne_eqb (length (drop p l)) 0 (λ r. q (omega (arith, length-drop p l)))))

pub body-says : (kind : ℕ) (l : List ℕ) (p : ℕ) {t : Bool} → p ≤ length l → t ≡ body_test kind l p → t ≡ is_body kind l p
unfolding is_body
body-says kind l p h e = e ∙ sym (is-given (body_of kind (drop p l)) (body_test kind l p) (body_value kind l p) (body-given kind l p h)).0

-- a body of kind 1 or 2, and one of no kind
pub body-hours : (kind : ℕ) (l : List ℕ) (p : ℕ) {r : Bool} → p ≤ length l → 1 ≤ kind → kind ≤ 2 → r ≡ is_hours l p → r ≡ is_body kind l p
unfolding body_test
body-hours kind l p h a b e =
    by-test (eqb kind 1)
    (λ q. body-says kind l p h (rw (ne_eqb kind 0 (λ z. omega arith), q) e))
    (λ q. let n : kind ≡ 1 → ⊥ = eqb-false kind 1 q in
    let t : kind ≡ 2 = omega arith in
    body-says kind l p h (rw (ne_eqb kind 0 (λ z. omega arith), q, eq-eqb kind 2 t) e))

pub body-none : (kind : ℕ) (l : List ℕ) (p : ℕ) → p ≤ length l → 3 < kind → false ≡ is_body kind l p
unfolding body_test
body-none kind l p h a =
    body-says kind l p h
    (rw (ne_eqb kind 0 (λ z. omega arith), ne_eqb kind 1 (λ z. omega arith), ne_eqb kind 2 (λ z. omega arith), ne_eqb kind 3 (λ z. omega arith)))

body_is : (kind : ℕ) (l : List ℕ) (p : ℕ) → p ≤ length l → body_of kind (drop p l) ≡ given (is_body kind l p) (body_value kind l p)
unfolding is_body
body_is kind l p h = (is-given (body_of kind (drop p l)) (body_test kind l p) (body_value kind l p) (body-given kind l p h)).1

-- l is a whole record
unfoldable pub record_test : List ℕ → Bool
record_test l = leb (get_or l 1 0) 64 && (leb (2 + get_or l 1 0) (length l) && is_body (get_or l 0 0) l (2 + get_or l 1 0))

-- the record l, which stands at o
unfoldable pub record_value : ℕ → List ℕ → model.Entry
record_value o l = record { place = o; name = take (get_or l 1 0) (drop 2 l); body = body_value (get_or l 0 0) l (2 + get_or l 1 0) }

abbrev part_of : ℕ → List ℕ → Part
part_of o l = record { place = o; bytes = l }

entry-given : (o : ℕ) (l : List ℕ) → entry_of (part_of o l) ≡ given (record_test l) (record_value o l)
unfolding entry_of record_test record_value
entry-given o l =
    by-test (leb (get_or l 1 0) 64)
    (λ a. by-test (leb (2 + get_or l 1 0) (length l))
    (λ b. rw (a, b, body_is (get_or l 0 0) l (2 + get_or l 1 0) (leb-true (2 + get_or l 1 0) (length l) b))
    (given-map (is_body (get_or l 0 0) l (2 + get_or l 1 0)) (body_value (get_or l 0 0) l (2 + get_or l 1 0))
    (λ x. record { place = o; name = take (get_or l 1 0) (drop 2 l); body = x })))
    (λ b. rw (a, b)))
    (λ a. rw a)

pub record-says : (l : List ℕ) {t : Bool} → t ≡ record_test l → t ≡ is_record l
unfolding is_record
record-says l e = e ∙ sym (is-given (entry_of (part_of 0 l)) (record_test l) (record_value 0 l) (entry-given 0 l)).0

-- the answers of `record_ok`, from the bounds that its tests show
module _ (l : List ℕ) {n : ℕ} (en : n ≡ get_or l 1 0) where
  pub record-long : 64 < n → false ≡ is_record l
  unfolding record_test
  record-long h = record-says l (rw (← en, lt-leb n 64 h))

  module _ (h : n ≤ 64) where
    pub record-short : length l < 2 + n → false ≡ is_record l
    unfolding record_test
    record-short k = record-says l (rw (← en, le-leb n 64 h, lt-leb (2 + n) (length l) k))

    pub record-body : 2 + n ≤ length l → {k : ℕ} {r : Bool} → k ≡ get_or l 0 0 → r ≡ is_body k l (2 + n) → r ≡ is_record l
    unfolding record_test
    record-body k ek er = record-says l (rw (← en, ← ek, le-leb n 64 h, le-leb (2 + n) (length l) k) er)

pub entry-is : (o : ℕ) (l : List ℕ) → entry_of (part_of o l) ≡ given (is_record l) (record_value o l)
entry-is o l = rw (sym (record-says l refl)) (entry-given o l)
