-- Where a refusal's place can lie: never behind the book's end. "The place is the book offset of the record for 4 and 5, else 0."
use Rattle.std.specs.Prelude.{◌&&◌, ℕ, zero, suc, ◌+◌, ◌*◌, ◌-◌, ◌≤◌, leb, eqb, length, get_or, drop}
use Rattle.std.proofs.Math.Option.{Option, none, some}
use mathlib.Core.List.{List, [], ◌∷◌}
use Rattle.std.proofs.Common.{arith, leb-true}
use Rattle.model.specs.Answer.{or_refuse}
use Rattle.model.specs.Basic.{given, each}
use Rattle.model.specs.Book.{Body, default, work, pause, holidays, Entry, body_of, entry_of, entries_of, is_default, last_default, within_limits}
use Rattle.model.specs.Build.{lookup, default_zone, rule_zone, zone_used, rules_of, works_in_2001, build}
use Rattle.model.specs.Bytes.{be}
use Rattle.model.specs.Directory.{Part, parts_from, parts_of}
use Rattle.model.specs.Pack.{Named, pack_of, find}
use Rattle.model.specs.Tzif.{Zone, zone_of}
use Rattle.laws_base.specs.Every.{Every}
use Rattle.laws_base.specs.Made.{Made, value, made-is, next, tested, Any, anything}
use Rattle.laws_base.specs.Test.{by-test, and_both}
use Rattle.laws_skip.specs.Books.{BuiltWell, build-well}
use Rattle.laws_part.specs.Placed.{PlacedIn, gave, placed-step, placed-or, placed-test, placed_by}

-- ---- the records of a book begin inside it

abbrev Inside : ℕ → Part → Type 0
Inside size p = p.place ≤ size

abbrev Begins : ℕ → Entry → Type 0
Begins size e = e.place ≤ size

parts-inside : (size n lo : ℕ) (d b : List ℕ) → Made (Every (Inside size)) (parts_from size n lo d b)
unfolding parts_from
parts-inside size zero lo d b = value tt
parts-inside size (suc n) lo d b =
    let o = be 4 d in
    let k = be 4 (drop 4 d) in
    let r = drop (o - lo) b in
    tested (leb lo o && leb (o + k) size) (λ _ t.
    next (parts_from size n (o + k) (drop 8 d) (drop k r)) (parts-inside size n (o + k) (drop 8 d) (drop k r)) (λ rest h.
    value ((let q = leb-true (o + k) size (and_both (leb lo o) (leb (o + k) size) t).1 in omega arith), h)))

entry-begins : (size : ℕ) (p : Part) → Inside size p → Made (Begins size) (entry_of p)
unfolding entry_of
entry-begins size p h =
    let n = get_or p.bytes 1 0 in
    let kind = get_or p.bytes 0 0 in
    tested (leb n 64 && leb (2 + n) (length p.bytes)) (λ _ _.
    next (body_of kind (drop (2 + n) p.bytes)) (anything (body_of kind (drop (2 + n) p.bytes))) (λ b _. value h))

each-begins : (size : ℕ) (l : List Part) → Every (Inside size) l → Made (Every (Begins size)) (each entry_of l)
unfolding each
each-begins size [] h = value tt
each-begins size (p ∷ l) h = next (entry_of p) (entry-begins size p h.0) (λ e i. next (each entry_of l) (each-begins size l h.1) (λ r j. value (i, j)))

entries-begin : (book : List ℕ) → Made (Every (Begins (length book))) (entries_of book)
unfolding entries_of parts_of
entries-begin book =
    let n = be 4 book in
    let size = length book in
    next (parts_of book) (tested (leb 4 size && leb (4 + 8 * n) size) (λ _ _. parts-inside size n (4 + 8 * n) (drop 4 book) (drop (4 + 8 * n) book)))
    (λ l h. each-begins size l h)

-- ---- build

module _ (m : ℕ) (files : List Named) where
  lookup-placed : (e : Entry) → Begins m e → PlacedIn Any m (lookup files e)
  unfolding lookup
  lookup-placed e h =
      placed-step {P = Any} (or_refuse 4 e.place (find e.name files)) (placed-or 4 e.place (find e.name files) h (λ _ _. tt))
      (λ f _. placed-or 5 e.place (zone_of f) h (λ _ _. tt))

  abbrev MayBegin : Option Entry → Type 0
  MayBegin none = Unit {0}
  MayBegin (some e) = Begins m e

  default-placed : (o : Option Entry) → MayBegin o → PlacedIn Any m (default_zone files o)
  default-placed none h = gave tt
  default-placed (some e) h = lookup-placed e h

  last_begins : (d : Option Entry) (l : List Entry) → MayBegin d → Every (Begins m) l → MayBegin (last_default d l)
  unfolding last_default
  last_begins d [] h k = h
  last_begins d (e ∷ l) h k = by-test (is_default e.body) (λ t. rw t (last_begins (some e) l k.0 k.1)) (λ t. rw t (last_begins d l h k.1))

  rule-placed : (z : Zone) (e : Entry) → Begins m e → PlacedIn Any m (rule_zone files z e)
  rule-placed z e h = by-test (eqb (length e.name) 0) (λ t. rw t (gave tt)) (λ t. rw t (lookup-placed e h))

  used-placed : (z : Zone) (e : Entry) (b : Body) → Begins m e → PlacedIn Any m (zone_used files z e b)
  used-placed z e default h = gave tt
  used-placed z e (work x) h = rule-placed z e h
  used-placed z e (pause x) h = rule-placed z e h
  used-placed z e (holidays x) h = rule-placed z e h

  rules-placed : (z : Zone) (l : List Entry) → Every (Begins m) l → PlacedIn Any m (rules_of files z l)
  unfolding rules_of
  rules-placed z [] h = gave tt
  rules-placed z (e ∷ l) h =
      placed-step {P = Any} (zone_used files z e e.body) (used-placed z e e.body h.0) (λ y _.
      placed-step {P = Any} (rules_of files z l) (rules-placed z l h.1) (λ s _. gave tt))

build-place : (book pack : List ℕ) → PlacedIn Any (length book) (build book pack)
unfolding build
build-place book pack =
    let m = length book in
    placed-step {P = Every (Begins m)} (or_refuse 1 0 (entries_of book)) (placed-or 1 0 (entries_of book) (omega arith) (λ l e. made-is (entries_of book) l (entries-begin book) e)) (λ l h.
    placed-step {P = Any} (or_refuse 2 0 (given (within_limits l) l)) (placed-test 2 0 (within_limits l) l (omega arith) (λ _. tt)) (λ _ _.
    placed-step {P = Any} (or_refuse 3 0 (pack_of pack)) (placed-or 3 0 (pack_of pack) (omega arith) (λ _ _. tt)) (λ p _.
    placed-step {P = Any} (default_zone p (last_default none l)) (default-placed m p (last_default none l) (last_begins m p none l tt h)) (λ z _.
    placed-step {P = Any} (rules_of p z l) (rules-placed m p z l h) (λ s _. placed-test 6 0 (works_in_2001 s) s (omega arith) (λ _. tt))))))

-- a refusal's place lies in the book, and a schedule that is given is built well
pub build-placed : (book pack : List ℕ) → PlacedIn BuiltWell (length book) (build book pack)
build-placed book pack = placed_by (build book pack) (build-place book pack) (λ s e. build-well book pack s e)
