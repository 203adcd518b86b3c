-- One step of each search over the runs of a zone, as the code takes it.
use mathlib.Core.Path.{◌≡◌, refl, sym, ◌∙◌, ap}
use mathlib.Core.Bool.{Bool, true, false}
use mathlib.Core.Logic.{◌⊎◌, inl, inr}
use mathlib.Core.List.{List}
use Prim.Native.Nat.{ℕ, ◌+◌, ◌-◌, ◌≤◌, ◌<◌, min, max}
use native.Mathlib.Omega.{arith}
use native.Mathlib.Decide.{dec_lt}
use lib.Dec.{ltb, leb}
use borrow.Author.Tests.{ltb-true, ltb-false, leb-true, leb-false}
use Rattle.laws_base.specs.Test.{by-test, and_both, clash}
use Rattle.laws_zone.specs.Grammar.{FooterFits}
use Rattle.laws_zone.specs.Resolve.{Reads, Resolves, by-offset, reads-if}
use Rattle.laws_zone.specs.Runs.{Run, Low, Past, low-start, low-found, low-next, low_jump, past-found, past_next}
use Rattle.model.specs.Footer.{Footer, empty, fixed, rules, change_in}
use Rattle.model.specs.Tzif.{Zone}
use Rattle.model.specs.Zone.{offset_at, second_of, ruled_at, latest}
use Rattle.model.specs.Marks.{plain, repeated, skipped, mark_of, readings}
use Rattle.laws_zone.specs.Sound.{first_local}
use Rattle.laws_zone.specs.Zones.{ZoneFits, offset-fits, second-resolves}
use Rattle.laws_zone.specs.Readings.{mark-skipped, mark-plain, mark-repeated}
use Rattle.zone_tzif.specs.declared.Layout.{Layout}
use Rattle.zone_tzif.specs.Places.{offset_after, time_at}
use Rattle.zone_tzif.specs.Opened.{Opened, TableBounds, zone_at, count_at}
use Rattle.zone_tzif.specs.declared.OffsetBounds.{OffsetBounds}
use Rattle.zone_tzif.proofs.Laws.{offset-early, offset-late, count_most, count-end, count-step, table-run}
use Rattle.zone_footer.specs.declared.Footer as F
use Rattle.zone_footer.specs.declared.Footer.TheVariants.{Fixed, Rules}
use Rattle.zone_footer.specs.declared.Rules as code
use Rattle.zone_footer.specs.Parsed.{the_footer, footer_rules}
use Rattle.zone.specs.Zones.{in_run, next_count, ZoneBounds, ReadsFrom}
use Rattle.model.specs.Offset.{greatest_offset}

pub in-run-yes : (u o e x : ℕ) → in_run u o e x ≡ true → (u + o ≤ x) × (x - o < e)
unfolding in_run
in-run-yes u o e x h =
    let k = and_both (leb (u + o) x) (ltb (x - o) e) h in
    (leb-true (u + o) x k.0, ltb-true (x - o) e k.1)

in-run-no : (u o e x : ℕ) → in_run u o e x ≡ false → (x < u + o) ⊎ ((u + o ≤ x) × (e ≤ x - o))
unfolding in_run
in-run-no u o e x h =
    by-test (leb (u + o) x) (λ a. inr (leb-true (u + o) x a, ltb-false (x - o) e (rw a at h))) (λ a. inl (leb-false (u + o) x a))

-- past the first jump, at u, with the run there
module _ {offset : ℕ → ℕ} {x u d o e : ℕ} {b : Bool} (p : Past offset x u d) (s : o ≡ offset u) (r : Run offset u e) (q : b ≡ in_run u o e x) where
  pub after-found : b ≡ true → Resolves offset x (x - o)
  after-found y =
      let h = in-run-yes u o e x (sym q ∙ y) in
      rw s (past-found r x p (omega arith) (omega arith))

  pub after_next : b ≡ false → Past offset x e d
  after_next y = past_next r x p (go (in-run-no u o e x (sym q ∙ y)))
    where
      go : (x < u + o) ⊎ ((u + o ≤ x) × (e ≤ x - o)) → (x < u + offset u) ⊎ (e + offset u ≤ x)
      go (inl a) = inl (omega arith)
      go (inr a) = inr (omega arith)

-- no second from `from` on and before u reads x
abbrev pub NoneFrom : (ℕ → ℕ) → ℕ → ℕ → ℕ → Type 0
NoneFrom offset x from u = (v : ℕ) → from ≤ v → v < u → Reads offset x v → ⊥

-- looking for a reading from `from` on, at u, with the run there
module _ {offset : ℕ → ℕ} {x from u o e : ℕ} {b : Bool} (h : from ≤ u) (s : o ≡ offset u) (r : Run offset u e) (q : b ≡ in_run u o e x) where
  pub reads-found : b ≡ true → ReadsFrom offset x from true
  reads-found y =
      let k = in-run-yes u o e x (sym q ∙ y) in
      record {
        some = λ i. (x - o, omega arith, omega (arith, r.same (x - o) (omega arith) (omega arith)));
        none = λ i. clash true refl i;
      }

  pub reads-next : NoneFrom offset x from u → b ≡ false → NoneFrom offset x from e
  reads-next n y v i j p = go (dec_lt v u) (in-run-no u o e x (sym q ∙ y))
    where
      go : Dec (v < u) → (x < u + o) ⊎ ((u + o ≤ x) × (e ≤ x - o)) → ⊥
      go (yes k) w = n v i k p
      go (no k) (inl a) = omega (arith, p, r.same v (omega arith) j)
      go (no k) (inr a) = omega (arith, p, r.same v (omega arith) j)

pub reads-done : {offset : ℕ → ℕ} {x from u low : ℕ} → ((v : ℕ) → low ≤ offset v) → NoneFrom offset x from u → x < u + low → ReadsFrom offset x from false
reads-done low n h = record {
  some = λ i. clash false i refl;
  none = λ i v j p. n v j (omega (arith, p, low v)) p;
}

-- where the search of `second_of` is: before any reading and any jump, in a run of the offset o that ends at e
pub record At (offset : ℕ → ℕ) (x o e : ℕ) : Type 0 where
  pub u : ℕ
  pub low : Low offset x u
  pub same : o ≡ offset u
  pub run : Run offset u e

pub at-start : (offset : ℕ → ℕ) (g : ℕ) → ((u : ℕ) → offset u ≤ g) → {x o e : ℕ} → g ≤ x → o ≡ offset (x - g) → Run offset (x - g) e → At offset x o e
at-start offset g high {x} h s r = record { u = x - g; low = low-start offset x g high h; same = s; run = r }

module _ {offset : ℕ → ℕ} {x o e : ℕ} (a : At offset x o e) where
  pub at_offset : o ≤ x
  at_offset = omega (arith, a.same, a.low.low)

  pub at-found : x - o < e → Resolves offset x (x - o)
  at-found k = rw a.same (low-found a.run x a.low (omega (arith, a.same, a.low.low)))

  module _ {q : ℕ} (k : e ≤ x - o) (s : q ≡ offset e) where
    up : e + offset a.u ≤ x
    up = omega (arith, a.same, a.low.low)

    pub at_next : {f : ℕ} → Run offset e f → e + q ≤ x → At offset x q f
    at_next r h = record { u = e; low = low-next a.run x a.low up (omega (arith, s)); same = s; run = r }

    pub at-jump : x < e + q → Past offset x e (x - o)
    at-jump h = rw a.same (low_jump a.run x a.low up (omega (arith, s)))

-- ---- the mark of the local second x, by what `second_of` gave and by the run there

-- the second is no later than x
pub second-upto : (z : Zone) (k : ZoneFits z) {x s : ℕ} → first_local ≤ x → s ≡ second_of z x → s ≤ x
second-upto z k {x} h q = let w = by-offset (offset_at z) (second-resolves z k x h) in omega (arith, q, w.1)

module _ (z : Zone) (k : ZoneFits z) {x s o e : ℕ} (h : first_local ≤ x) (q : s ≡ second_of z x) (g : o ≡ offset_at z s) (r : Run (offset_at z) s e) where
  resolves : Resolves (offset_at z) x s
  resolves = rw q (second-resolves z k x h)

  pub not-read : (s + o ≡ x → ⊥) → skipped ≡ mark_of (readings z x)
  not-read n =
      sym (mark-skipped z k.footer-fits (λ u. (offset-fits z k u).0) (λ u. (offset-fits z k u).1) x h
      (λ v p. n (let w = (reads-if (offset_at z) resolves p).0 in omega arith)))

  -- the run goes on up to x, and no second from x on reads it
  none-behind : x ≤ e → ReadsFrom (offset_at z) x e false
  none-behind j = reads-done {u = e} {low = 1} (λ v. (offset-fits z k v).0) (λ v a b p. omega arith) (omega arith)

  module _ (p : s + o ≡ x) {b : Bool} (m : ReadsFrom (offset_at z) x e b) where
    pub read_again : b ≡ true → repeated ≡ mark_of (readings z x)
    read_again y =
        let v = m.some y in
        sym (mark-repeated z k.footer-fits (λ u. (offset-fits z k u).0) (λ u. (offset-fits z k u).1) x h s v.0 (omega arith) v.2
        (λ d. omega (arith, v.1, r.on)))

    pub read-only-once : b ≡ false → plain ≡ mark_of (readings z x)
    read-only-once y =
        sym (mark-plain z k.footer-fits (λ u. (offset-fits z k u).0) (λ u. (offset-fits z k u).1) x h s (omega arith)
        (λ v i. go v i (reads-if (offset_at z) resolves i).1 (dec_lt v e)))
      where
        go : (v : ℕ) → Reads (offset_at z) x v → s ≤ v → Dec (v < e) → v ≡ s
        go v i j (yes a) = omega (arith, i, r.same v j a)
        go v i j (no a) = absurd (m.none y v (omega arith) i)

  pub read-in-run : s + o ≡ x → x ≤ e → plain ≡ mark_of (readings z x)
  read-in-run p j = read-only-once p (none-behind j) refl

-- ---- the run at a second

module _ {f : List ℕ} {l : Layout} (o : Opened f l) (foot : Footer) (u : ℕ) {k : ℕ} (e : k ≡ count_at f l u) where
  -- before the last transition the table counts
  module _ (h : k < l.count) where
    pub early-offset : {x : ℕ} → x ≡ offset_after f l k → x ≡ offset_at (zone_at f l foot) u
    early-offset q = q ∙ ap (offset_after f l) e ∙ sym (offset-early f l o u foot (omega arith))

    pub early-count : {t : ℕ} → t ≡ time_at f l k → next_count l k ≡ count_at f l t
    early-count {t} q =
        let s : t ≡ time_at f l (count_at f l u) = q ∙ ap (time_at f l) e in
        omega (arith, e, ap (count_at f l) s, count-step f l o u (omega arith))

    pub early-run : {t : ℕ} → t ≡ time_at f l k → Run (offset_at (zone_at f l foot)) u t
    early-run q = rw (q ∙ ap (time_at f l) e) (table-run f l o foot u (omega arith))

  -- from the last one on the footer
  module _ (h : l.count ≤ k) (m : k ≤ l.count) {last : ℕ} (s : last ≡ offset_after f l k) where
    last-is : last ≡ offset_after f l l.count
    last-is = s ∙ ap (offset_after f l) (omega arith)

    late : (v : ℕ) → u ≤ v → offset_at (zone_at f l foot) v ≡ ruled_at foot last v
    late v a =
        offset-late f l o v foot (count-end f l o u v (omega arith) a) ∙ ap (λ (w : ℕ). ruled_at foot w v) (sym last-is)

    pub late-offset : {x : ℕ} → x ≡ ruled_at foot last u → x ≡ offset_at (zone_at f l foot) u
    late-offset q = q ∙ sym (late u (omega arith))

    pub late-run : {t : ℕ} → Run (ruled_at foot last) u t → Run (offset_at (zone_at f l foot)) u t
    late-run r = record { on = r.on; same = λ v a b. late v a ∙ r.same v a b ∙ sym (late u (omega arith)) }

    pub late-count : {t : ℕ} → u < t → next_count l k ≡ count_at f l t
    late-count {t} a = omega (arith, count-end f l o u t (omega arith) (omega arith), count_most f l o t)

-- ---- bounds of a zone's offsets

-- a footer's own offsets lie from lo to hi
abbrev FooterWithin : ℕ → ℕ → Footer → Type 0
FooterWithin lo hi empty = Unit {0}
FooterWithin lo hi (fixed o) = (lo ≤ o) × (o ≤ hi)
FooterWithin lo hi (rules std dst start end) = (lo ≤ std) × (std ≤ hi) × (lo ≤ dst) × (dst ≤ hi)

module _ {lo hi : ℕ} where
  ruled-within : (foot : Footer) → FooterWithin lo hi foot → (o u : ℕ) → (lo ≤ o) × (o ≤ hi) → (lo ≤ ruled_at foot o u) × (ruled_at foot o u ≤ hi)
  unfolding ruled_at
  ruled-within empty w o u h = h
  ruled-within (fixed g) w o u h = w
  ruled-within (rules std dst start end) w o u h =
      by-test (leb (latest (change_in dst end) u) (latest (change_in std start) u)) (λ e. rw e (w.2, w.3)) (λ e. rw e (w.0, w.1))

  within : (f : List ℕ) (l : Layout) → Opened f l → ((k : ℕ) → k ≤ l.count → (lo ≤ offset_after f l k) × (offset_after f l k ≤ hi)) → (foot : Footer) → FooterWithin lo hi foot
      → (u : ℕ) → (lo ≤ offset_at (zone_at f l foot) u) × (offset_at (zone_at f l foot) u ≤ hi)
  within f l o t foot w u = go (dec_lt (count_at f l u) l.count)
    where
      go : Dec (count_at f l u < l.count) → (lo ≤ offset_at (zone_at f l foot) u) × (offset_at (zone_at f l foot) u ≤ hi)
      go (yes y) = rw (offset-early f l o u foot y) (t (count_at f l u) (omega arith))
      go (no y) = rw (offset-late f l o u foot (omega arith)) (ruled-within foot w (offset_after f l l.count) u (t l.count (omega arith)))

module _ {f : List ℕ} {l : Layout} (o : Opened f l) {b : OffsetBounds} (t : TableBounds f l b) where
  module _ {c : OffsetBounds} (p : c.least ≤ b.least) (q : b.greatest ≤ c.greatest) (m : c.greatest ≤ greatest_offset) where
    each : (k : ℕ) → k ≤ l.count → (c.least ≤ offset_after f l k) × (offset_after f l k ≤ c.greatest)
    each k h = (omega (arith, (t.each k h).0), omega (arith, (t.each k h).1))

    with-footer : (foot : Footer) → FooterWithin c.least c.greatest foot → ZoneBounds (offset_at (zone_at f l foot)) c
    with-footer foot w = record {
      least = λ u. (within f l o each foot w u).0;
      greatest = λ u. (within f l o each foot w u).1;
      most = m;
    }

  -- `bounds_of`, by the footer's variant
  pub bounds-plain : (foot : F.Footer) → the_footer foot ≡ empty → ZoneBounds (offset_at (zone_at f l (the_footer foot))) b
  bounds-plain foot e = rw e (with-footer (omega arith) (omega arith) t.most empty tt)

  pub bounds-fixed : {foot : F.Footer} {s : ℕ} {c : OffsetBounds} → foot ≡ Fixed s → FooterFits (the_footer foot)
      → (c.least ≡ min b.least s) × (c.greatest ≡ max b.greatest s) → ZoneBounds (offset_at (zone_at f l (the_footer foot))) c
  bounds-fixed {foot} {s} {c} e fits w =
      let k : FooterFits (fixed s) = rw e at fits in
      rw e (with-footer (omega (arith, w.0)) (omega (arith, w.1)) (omega (arith, w.1, t.most, k.1)) (fixed s) (omega (arith, w.0), omega (arith, w.1)))

  pub bounds-rules : {foot : F.Footer} {r : code.Rules} {c d : OffsetBounds} → foot ≡ Rules r → FooterFits (the_footer foot)
      → (c.least ≡ min b.least r.std) × (c.greatest ≡ max b.greatest r.std)
      → (d.least ≡ min c.least r.dst) × (d.greatest ≡ max c.greatest r.dst) → ZoneBounds (offset_at (zone_at f l (the_footer foot))) d
  bounds-rules {foot} {r} {c} {d} e fits v w =
      let k : FooterFits (footer_rules r) = rw e at fits in
      rw e (with-footer (omega (arith, v.0, w.0)) (omega (arith, v.1, w.1)) (omega (arith, v.1, w.1, t.most, k.0.1, k.1.1)) (footer_rules r)
      (omega (arith, v.0, w.0), omega (arith, v.1, w.1), omega (arith, w.0), omega (arith, w.1)))
