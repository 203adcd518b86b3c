-- The laws of this crate that callers cite: what `read` promises, and how the lookups make a zone's offset. At the end, what the lookups' own proofs cite.
use Rattle.std.specs.Prelude.{if◌then◌else◌, None, Some}
use mathlib.Core.Path.{◌≡◌, sym, ap, ◌∙◌, subst}
use mathlib.Core.Bool.{true, false, ◌&&◌}
use mathlib.Core.Option.{none, some}
use mathlib.Core.List.{List}
use Prim.Native.Nat.{ℕ, zero, suc, ◌+◌, ◌*◌, ◌-◌, ◌≤◌, ◌<◌, min, max}
use native.Mathlib.Omega.{arith}
use native.Mathlib.Decide.{dec_le, dec_lt}
use lib.Dec.{leb, ltb, eqb}
use lib.ListN.{length, get_or}
use borrow.Author.Tests.{lt-ltb, le-ltb, le-leb, lt-leb, leb-true, ltb-true, ltb-false}
use Rattle.model.specs.Basic.{◌>>=◌, is_in}
use Rattle.model.specs.Footer.{Footer, footer_of}
use Rattle.model.specs.Tzif.{counts_ok, zero_or, version_of, table_of, zone_of, most_types, most_transitions}
use Rattle.model.specs.Offset.{greatest_offset}
use Rattle.model.specs.Zone.{offset_from, offset_at, ruled_at}
use Rattle.laws_base.specs.Test.{by-test, and_both, never}
use Rattle.laws_zone.specs.Runs.{Run}
use Rattle.big_endian.specs.Be.{be32}
use Rattle.big_endian.specs.Walk.{all_from, up_to, rises_at}
use Rattle.big_endian.proofs.Walk.{all-at, rises, Rises, count-in, count-out, count-le}
use Rattle.zone_tzif_head.specs.declared.Head.{Head}
use Rattle.zone_tzif.specs.declared.Layout.{Layout}
use Rattle.zone_tzif_head.specs.Heads.{header_is, head_ok, head_at, second_at}
use Rattle.zone_tzif_block.specs.Parts.{key_at, byte_below, type_offset, type_fits, kinds_at, types_at, marks_at, tail_at, tail_ok, times_rise, tables_ok, block_ok}
use Rattle.zone_tzif.specs.Places.{layout_at, usable, layout_of, read_of, time_at, type_at, types_before, type_count, offset_after, changes_from, line_at, table_at}
use Rattle.zone_tzif.specs.Opened.{HasTypes, Opened, TableBounds, zone_at, count_at}
use Rattle.zone_tzif.specs.declared.OffsetBounds.{OffsetBounds}
use Rattle.zone_tzif.proofs.Bridge.{table_is, block_in}

-- ---- what `read` promises

-- the parts of a block that passes
record Passed (f : List ℕ) (b : ℕ) (h : Head) : Type 0 where
  types : 1 ≤ h.types
  few-types : h.types ≤ most_types
  few : h.times ≤ most_transitions
  room : tail_at b h + 1 < length f
  rise : times_rise f b h.times ≡ true
  kinds : all_from (byte_below f (kinds_at b h.times) h.types) 0 h.times ≡ true
  fit : all_from (type_fits f (types_at b h.times) h.chars) 0 h.types ≡ true

counts : (h : Head) → counts_ok (header_is h) ≡ true → (1 ≤ h.types) × (h.types ≤ most_types) × (h.times ≤ most_transitions)
unfolding counts_ok
counts h e =
    let rest = leb 1 h.chars && (eqb h.leaps 0 && (zero_or h.types h.stds && zero_or h.types h.uts)) in
    let p = and_both (is_in 1 most_types h.types) (leb h.times most_transitions && rest) e in
    let q = and_both (leb h.times most_transitions) rest p.1 in
    let t = and_both (leb 1 h.types) (leb h.types most_types) p.0 in
    (leb-true _ _ t.0, leb-true _ _ t.1, leb-true _ _ q.0)

passed : (f : List ℕ) (b : ℕ) (h : Head) → block_ok f b h ≡ true → Passed f b h
unfolding block_ok tables_ok
passed f b h e =
    let marks = all_from (byte_below f (marks_at b h) 2) 0 (h.stds + h.uts) in
    let types = all_from (type_fits f (types_at b h.times) h.chars) 0 h.types in
    let kinds = all_from (byte_below f (kinds_at b h.times) h.types) 0 h.times in
    let p = and_both (counts_ok (header_is h)) (tail_ok f (tail_at b h) && tables_ok f b h) e in
    let q = and_both (tail_ok f (tail_at b h)) (tables_ok f b h) p.1 in
    let r = and_both (times_rise f b h.times) (kinds && (types && marks)) q.1 in
    let s = and_both kinds (types && marks) r.1 in
    let c = counts h p.0 in
    record { types = c.0; few-types = c.1; few = c.2; room = block_in f b h e; rise = r.0; kinds = s.0; fit = (and_both types marks s.1).0 }

module _ (f : List ℕ) (b : ℕ) (h : Head) (p : Passed f b h) where
  kind-below : (i : ℕ) → i < h.times → get_or f (kinds_at b h.times + i) 0 < h.types
  unfolding byte_below
  kind-below i l = ltb-true _ _ (all-at (byte_below f (kinds_at b h.times) h.types) h.times i p.kinds l)

  offset-fits : (k : ℕ) → k < h.types → (1 ≤ type_offset (be32 f (types_at b h.times + 6 * k))) × (type_offset (be32 f (types_at b h.times + 6 * k)) ≤ greatest_offset)
  unfolding type_fits
  offset-fits k l =
      let o = type_offset (be32 f (types_at b h.times + 6 * k)) in
      let a = types_at b h.times + 6 * k in
      let t = and_both (is_in 1 greatest_offset o) (ltb (get_or f (a + 4) 0) 2 && ltb (get_or f (a + 5) 0) h.chars) (all-at (type_fits f (types_at b h.times) h.chars) h.types k p.fit l) in
      let s = and_both (leb 1 o) (leb o greatest_offset) t.0 in
      (leb-true _ _ s.0, leb-true _ _ s.1)

  passed-fits : (k : ℕ) → k ≤ h.times → (1 ≤ offset_after f (layout_at f b h) k) × (offset_after f (layout_at f b h) k ≤ greatest_offset)
  unfolding offset_after layout_at
  passed-fits zero l =
      let z : types_at b h.times + 6 * 0 ≡ types_at b h.times = omega arith in
      rw z at (offset-fits 0 p.types)
  passed-fits (suc i) l = offset-fits (get_or f (kinds_at b h.times + i) 0) (kind-below i l)

  -- the header stands before the block
  module _ (t : h.types ≡ be32 f (b - types_before)) (k : types_before ≤ b) where
    passed-types : HasTypes f (layout_at f b h)
    unfolding layout_at type_at
    passed-types = record {
      behind-header = k;
      few-types = omega (arith, t, p.few-types);
      below = λ i l. omega (arith, t, kind-below i l);
      types-fit = λ i l. (offset-fits i (omega (arith, t))).1;
    }

  passed-opened : h.types ≡ be32 f (b - types_before) → types_before ≤ b → Opened f (layout_at f b h)
  unfolding layout_at
  passed-opened t k = record {
    few = p.few;
    inside = omega (arith, p.room);
    types-inside = λ i l. omega (arith, kind-below i l, p.room);
    rise = p.rise;
    fit = passed-fits;
    types = λ _. passed-types t k;
  }

-- a usable file's layout
usable-opened : (f : List ℕ) → usable f ≡ true → Opened f (layout_of f)
unfolding usable layout_of head_at
usable-opened f e =
    let s = second_at f in
    let block = block_ok f (s + 44) (head_at f s) in
    let same = eqb (get_or f 4 0) (head_at f s).version in
    let p = and_both (head_ok f 0) (head_ok f s && (same && block)) e in
    let q = and_both (head_ok f s) (same && block) p.1 in
    let a : s + 36 ≡ s + 44 - types_before = omega arith in
    passed-opened f (s + 44) (head_at f s) (passed f (s + 44) (head_at f s) (and_both same block q.1).1) (ap (be32 f) a) (omega arith)

module _ (f : List ℕ) where
  -- what `read` answers of a usable file ..
  read-yes : usable f ≡ true → (l : Layout) → read_of f ≡ Some l → layout_of f ≡ l
  unfolding read_of
  read-yes e l q = let z : Some (layout_of f) ≡ Some l = rw e at q in cc

  -- .. and of another one
  read_no : {P : Type 0} → usable f ≡ false → (l : Layout) → read_of f ≡ Some l → P
  unfolding read_of
  read_no e l q =
      let z : None ≡ Some l = rw e at q in
      never (cc)

  read_none : read_of f ≡ None → usable f ≡ false
  unfolding read_of
  read_none q =
      by-test (usable f)
      (λ e. let z : Some (layout_of f) ≡ None = rw e at q in never (cc))
      (λ e. e)

  -- a layout that `read` answers is one that the lookups take ..
  pub opened : (l : Layout) → read_of f ≡ Some l → Opened f l
  opened l q =
      by-test (usable f)
      (λ e. subst (Opened f) (read-yes e l q) (usable-opened f e))
      (λ e. read_no e l q)

  -- .. and it is the file's
  pub table-read : (l : Layout) → read_of f ≡ Some l → table_of f ≡ some (table_at f l)
  table-read l q =
      by-test (usable f)
      (λ e. rw (table_is f, e, read-yes e l q))
      (λ e. read_no e l q)

  pub table-unusable : read_of f ≡ None → table_of f ≡ none
  table-unusable q = rw (table_is f, read_none q)

  -- the zone of a file that `read` takes, given what its footer's line spells
  pub zone-read : (l : Layout) → read_of f ≡ Some l → zone_of f ≡ (footer_of (version_of f) (line_at f l) >>= λ foot. some (zone_at f l foot))
  unfolding zone_of
  zone-read l q = rw (table-read l q)

  pub zone-unusable : read_of f ≡ None → zone_of f ≡ none
  unfolding zone_of
  zone-unusable q = rw (table-unusable q)

-- ---- the table at a second

-- for any times and offsets: c changes are at or before u, the next one is not
module _ (time offset : ℕ → ℕ) (foot : Footer) (u : ℕ) where
  record Split (i n c : ℕ) : Type 0 where
    from : i ≤ c
    to : c ≤ i + n
    past : (j : ℕ) → j < c → time j ≤ u
    next : c < i + n → u < time c

  split-offset : (n i c : ℕ) → Split i n c →
      offset_from (offset i) (changes_from time offset i n) foot u ≡ (if ltb c (i + n) then offset c else ruled_at foot (offset c) u)
  unfolding offset_from changes_from
  split-offset zero i c s =
      let e : c ≡ i = omega arith in
      rw (e, le-ltb i (i + 0) (omega arith))
  split-offset (suc n) i c s =
      by-test (ltb i c)
      (λ y. let h : i < c = ltb-true _ _ y in
      let m : suc i + n ≡ i + suc n = omega arith in
      rw (le-leb (time i) u (s.past i h), ← m)
      (split-offset n (suc i) c (record { from = h; to = omega arith; past = s.past; next = λ k. s.next (omega arith) })))
      (λ y. let h : c ≤ i = ltb-false _ _ y in
      let e : c ≡ i = omega arith in
      let g : u < time i = subst (λ (k : ℕ). u < time k) e (s.next (omega arith)) in
      rw (lt-leb (time i) u g, e, lt-ltb i (i + suc n) (omega arith)))

module _ (f : List ℕ) (l : Layout) (o : Opened f l) where
  pub times-rise : Rises (time_at f l) l.count
  unfolding time_at
  times-rise i j h k =
      let r : key_at f l.times i ≤ key_at f l.times j = rises (key_at f l.times) l.count o.rise i j h k in
      omega arith

  module _ (u : ℕ) where
    pub count_most : count_at f l u ≤ l.count
    unfolding count_at
    count_most = count-le (up_to (time_at f l) u) l.count

    -- each transition that counts is at or before u ..
    pub count_past : (j : ℕ) → j < count_at f l u → time_at f l j ≤ u
    unfolding count_at
    count_past j h = go (dec_le (time_at f l j) u)
      where
        go : Dec (time_at f l j ≤ u) → time_at f l j ≤ u
        go (yes y) = y
        go (no y) =
            let m : count_at f l u ≤ l.count = count_most in
            let w : count_at f l u ≤ j = count-out (time_at f l) u l.count j times-rise (omega arith) (omega arith) in
            absurd (omega arith)

    -- .. and the next one is behind it
    pub count_next : count_at f l u < l.count → u < time_at f l (count_at f l u)
    unfolding count_at
    count_next h = go (dec_lt u (time_at f l (count_at f l u)))
      where
        go : Dec (u < time_at f l (count_at f l u)) → u < time_at f l (count_at f l u)
        go (yes y) = y
        go (no y) =
            let w : count_at f l u < count_at f l u = count-in (time_at f l) u l.count (count_at f l u) times-rise h (omega arith) in
            absurd (omega arith)

    -- the offset at u: the table's before its last transition, then what the footer rules
    pub offset_at_lem : (foot : Footer) → offset_at (zone_at f l foot) u
        ≡ (if ltb (count_at f l u) l.count then offset_after f l (count_at f l u) else ruled_at foot (offset_after f l (count_at f l u)) u)
    unfolding offset_at offset_after
    offset_at_lem foot =
        let m : 0 + l.count ≡ l.count = omega arith in
        split-offset (time_at f l) (offset_after f l) foot u l.count 0 (count_at f l u) (record {
          from = omega arith;
          to = omega (arith, count_most);
          past = count_past;
          next = λ h. count_next (omega arith);
        }) ∙ rw m

    pub offset-early : (foot : Footer) → count_at f l u < l.count → offset_at (zone_at f l foot) u ≡ offset_after f l (count_at f l u)
    offset-early foot h = offset_at_lem foot ∙ rw (lt-ltb (count_at f l u) l.count h)

    pub offset-late : (foot : Footer) → l.count ≤ count_at f l u → offset_at (zone_at f l foot) u ≡ ruled_at foot (offset_after f l l.count) u
    offset-late foot h =
        let e : count_at f l u ≡ l.count = omega (arith, count_most) in
        offset_at_lem foot ∙ rw (le-ltb (count_at f l u) l.count h, e)

  -- what lies between two counts
  pub count-is : (u c : ℕ) → c ≤ l.count → ((j : ℕ) → j < c → time_at f l j ≤ u) → (c < l.count → u < time_at f l c) → count_at f l u ≡ c
  count-is u c h p q = go (dec_lt (count_at f l u) c) (dec_lt c (count_at f l u))
    where
      go : Dec (count_at f l u < c) → Dec (c < count_at f l u) → count_at f l u ≡ c
      go (yes y) d = absurd (omega (arith, count_next u (omega arith), p (count_at f l u) y))
      go (no y) (yes z) = absurd (omega (arith, q (omega (arith, count_most u)), count_past u c z))
      go (no y) (no z) = omega arith

  -- the seconds up to the next transition have one count ..
  pub count_same : (u v : ℕ) → count_at f l u < l.count → u ≤ v → v < time_at f l (count_at f l u) → count_at f l v ≡ count_at f l u
  count_same u v h a b = count-is v (count_at f l u) (omega arith) (λ j k. omega (arith, count_past u j k)) (λ _. b)

  -- .. and so have those from the last one on
  pub count-end : (u v : ℕ) → l.count ≤ count_at f l u → u ≤ v → l.count ≤ count_at f l v
  count-end u v h a =
      let e : count_at f l v ≡ l.count = count-is v l.count (omega arith) (λ j k. omega (arith, count_past u j (omega arith))) (λ k. absurd (omega arith)) in
      omega arith

  -- the next transition's second counts one more
  pub count-step : (u : ℕ) → count_at f l u < l.count → count_at f l (time_at f l (count_at f l u)) ≡ count_at f l u + 1
  unfolding time_at
  count-step u h =
      let k = count_at f l u in
      let behind : u < time_at f l k = count_next u h in
      count-is (time_at f l k) (k + 1) (omega arith) (λ j a. times-rise j k (omega arith) h) (λ a.
      let r : key_at f l.times k < key_at f l.times (k + 1) = ltb-true _ _ (all-at (rises_at (key_at f l.times)) (l.count - 1) k o.rise (omega arith)) in
      omega arith)

  -- up to the next transition the offset is one
  pub table-run : (foot : Footer) (u : ℕ) → count_at f l u < l.count → Run (offset_at (zone_at f l foot)) u (time_at f l (count_at f l u))
  table-run foot u h = record {
    on = count_next u h;
    same = λ v a b.
        let e : count_at f l v ≡ count_at f l u = count_same u v h a b in
        offset-early v foot (omega arith) ∙ ap (offset_after f l) e ∙ sym (offset-early u foot h);
  }

  -- from the last transition on a run of what the footer rules is a run of the zone
  pub late-run : (foot : Footer) (u e : ℕ) → l.count ≤ count_at f l u → Run (ruled_at foot (offset_after f l l.count)) u e → Run (offset_at (zone_at f l foot)) u e
  late-run foot u e h r = record {
    on = r.on;
    same = λ v a b. offset-late v foot (count-end u v h a) ∙ r.same v a b ∙ sym (offset-late u foot h);
  }

-- ---- the code's steps

-- a search by halves: the count lies past a transition that is at or before u, and not past one behind it
module _ {f : List ℕ} {l : Layout} {u j x : ℕ} (o : Opened f l) (k : j < l.count) (e : x ≡ time_at f l j) where
  pub past-time : x ≤ u → j < count_at f l u
  unfolding count_at
  past-time q = count-in (time_at f l) u l.count j (times-rise f l o) k (omega arith)

  pub before-time : u < x → count_at f l u ≤ j
  unfolding count_at
  before-time q = count-out (time_at f l) u l.count j (times-rise f l o) k (omega arith)

-- what `table_offset` gives
abbrev Gives : List ℕ → Layout → ℕ → ℕ → Type 0
Gives f l k r = (r ≡ offset_after f l k) × (1 ≤ r) × (r ≤ greatest_offset)

module _ (f : List ℕ) (l : Layout) (o : Opened f l) where
  gives : (k r : ℕ) → k ≤ l.count → r ≡ offset_after f l k → Gives f l k r
  gives k r h e = (e, omega (arith, (o.fit k h).0), omega (arith, (o.fit k h).1))

  pub offset-first : (k : ℕ) → k ≡ 0 → Gives f l k l.initial
  unfolding offset_after
  offset-first k e = gives k l.initial (omega arith) (rw e)

  pub offset-next : {k kind v r : ℕ} → k ≤ l.count → 1 ≤ k → kind ≡ get_or f (kinds_at l.times l.count + (k - 1)) 0
      → v ≡ be32 f (types_at l.times l.count + 6 * kind) → r ≡ type_offset v → Gives f l k r
  unfolding offset_after
  offset-next {k} {kind} {v} {r} h i a b c =
      let z : k ≡ suc (k - 1) = omega arith in
      gives k r h (c ∙ ap type_offset b ∙ ap (λ (m : ℕ). type_offset (be32 f (types_at l.times l.count + 6 * m))) a ∙ sym (ap (offset_after f l) z))

-- ---- bounds of offsets

-- where `table_bounds` is: bounds of the first offset and of those of i types, which stand from `at` on
pub record Widening (f : List ℕ) (first at i : ℕ) (b : OffsetBounds) : Type 0 where
  pub so_far : (j : ℕ) → j < i → (b.least ≤ type_offset (be32 f (at + 6 * j))) × (type_offset (be32 f (at + 6 * j)) ≤ b.greatest)
  pub with_first : (b.least ≤ first) × (first ≤ b.greatest)
  pub most : b.greatest ≤ greatest_offset

pub widens-first : (f : List ℕ) {first : ℕ} (at : ℕ) → first ≤ greatest_offset → Widening f first at 0 (record { least = first; greatest = first })
widens-first f at h = record { so_far = λ j k. absurd (omega arith); with_first = (omega arith, omega arith); most = h }

pub widens : {f : List ℕ} {first at i o : ℕ} {b c : OffsetBounds} → Widening f first at i b → o ≡ type_offset (be32 f (at + 6 * i)) → o ≤ greatest_offset
    → (c.least ≡ min b.least o) × (c.greatest ≡ max b.greatest o) → Widening f first at (i + 1) c
widens {f} {first} {at} {i} {o} {b} {c} w e h q = record {
  so_far = λ j k. go j (dec_lt j i) k;
  with_first = (omega (arith, q.0, w.with_first), omega (arith, q.1, w.with_first));
  most = omega (arith, q.1, w.most);
}
  where
    go : (j : ℕ) → Dec (j < i) → j < i + 1 → (c.least ≤ type_offset (be32 f (at + 6 * j))) × (type_offset (be32 f (at + 6 * j)) ≤ c.greatest)
    go j (yes y) k = (omega (arith, q.0, (w.so_far j y).0), omega (arith, q.1, (w.so_far j y).1))
    go j (no y) k =
        let s : i ≡ j = omega arith in
        let t : o ≡ type_offset (be32 f (at + 6 * j)) = e ∙ ap (λ (m : ℕ). type_offset (be32 f (at + 6 * m))) s in
        (omega (arith, q.0, t), omega (arith, q.1, t))

module _ (f : List ℕ) (l : Layout) where
  pub first-most : {r : ℕ} → Opened f l → r ≡ l.initial → r ≤ greatest_offset
  unfolding offset_after
  first-most o e = omega (arith, e, (o.fit 0 (omega arith)).1)

  pub type-most : {i n r : ℕ} → Opened f l → 1 ≤ l.count → n ≡ type_count f l → i < n → r ≡ type_offset (be32 f (types_at l.times l.count + 6 * i)) → r ≤ greatest_offset
  unfolding type_at
  type-most {i} o c e h q = omega (arith, q, (o.types c).types-fit i (omega (arith, e)))

  -- a table without transitions has one offset
  pub bounds-none : {b : OffsetBounds} → Opened f l → l.count ≡ 0 → b.least ≡ l.initial → b.greatest ≡ l.initial → TableBounds f l b
  unfolding offset_after
  bounds-none {b} o e p q = record { each = each; most = omega (arith, q, (o.fit 0 (omega arith)).1) }
    where
      each : (k : ℕ) → k ≤ l.count → (b.least ≤ offset_after f l k) × (offset_after f l k ≤ b.greatest)
      each zero h = (omega (arith, p), omega (arith, q))
      each (suc k) h = absurd (omega arith)

  -- those of all types are bounds of the table's offsets
  pub bounds-all : {first i : ℕ} {b : OffsetBounds} → Opened f l → 1 ≤ l.count → first ≡ l.initial → type_count f l ≤ i
      → Widening f first (types_at l.times l.count) i b → TableBounds f l b
  unfolding offset_after
  bounds-all {first} {i} {b} o c e n w = record { each = each; most = w.most }
    where
      each : (k : ℕ) → k ≤ l.count → (b.least ≤ offset_after f l k) × (offset_after f l k ≤ b.greatest)
      each zero h = (omega (arith, e, w.with_first), omega (arith, e, w.with_first))
      each (suc k) h = w.so_far (get_or f (kinds_at l.times l.count + k) 0) (omega (arith, (o.types c).below k h))
