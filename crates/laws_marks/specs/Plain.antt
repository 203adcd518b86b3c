-- Where zones keep one offset from four days before an instant to four days after it, every end of a block at that instant is plain: no mark needs
-- to be looked for there.
use Rattle.std.specs.Prelude.{◌≡◌, refl, Bool, not, ◌&&◌, ℕ, zero, suc, ◌+◌, ◌*◌, ◌-◌, ◌/◌, ◌%◌, ◌≤◌, ◌<◌, leb, ltb, eqb}
use Rattle.std.proofs.Math.Path.{ap}
use mathlib.Core.List.{List, [], ◌∷◌, map}
use Rattle.std.proofs.Common.{inl}
use native.Mathlib.Omega.{arith}
use borrow.Author.Tests.{le-leb, eq-eqb, eqb-true, ltb-true, ltb-false}
use Rattle.model.specs.Basic.{filter, joined, run}
use Rattle.model.specs.Calendar.{first_day, last_day}
use Rattle.model.specs.Instant.{second, day, day_seconds, first_instant, last_instant}
use Rattle.model.specs.Offset.{offset_bias, greatest_offset}
use Rattle.model.specs.Tzif.{Zone}
use Rattle.model.specs.Zone.{offset_at, changes_in, reads, second_of, resolve}
use Rattle.model.specs.Working.{Rule, Schedule, first_date, last_date, local_dates, start_of, end_of}
use Rattle.model.specs.Marks.{plain, readings, mark_of, resolve_mark, mark_by_end, Edge, MarkedBlock, marked, put_marked, earlier_start, later_end, insert_marked, sorted_marked, merged_marked_from, merged_marked, union_marked, cut_marked, subtract_marked, start_edge, end_edge, whole_on, whole_of, whole_of_all, not_before, not_behind, windowed, marked_working}
use Rattle.laws_base.specs.Test.{by-test}
use Rattle.laws_base.specs.Every.{Every, every_map, every-both}
use Rattle.laws_base.specs.Members.{Member, filter-keeps}
use Rattle.laws_zone.specs.Sound.{Sound, dawn, first_local}
use Rattle.laws_zone.specs.Readings.{one_plain, listed-reads}
use Rattle.laws_demand3.specs.Windows.{RuleOk, off_rules, OfRules}
use Rattle.laws_demand3.specs.Local.{offset_nanos, raw, Clamped, kept, early, late, in-range, first-from, last-upto}
use Rattle.laws_marks.specs.Around.{Around, around_of, starts_with, ends_with, best_start, best_end, start_by, end_by}

-- ---- a local second whose second s has one offset around it

module _ (z : Zone) (k : Sound z) (l s o : ℕ) (h : dawn + first_local ≤ l) (e : second_of z l ≡ s)
    (near : (v : ℕ) → s ≤ v + first_local → v ≤ s + first_local → offset_at z v ≡ o) where
  -- s reads l ..
  reads-one : s + o ≡ l
  reads-one =
      let w = k.some l h in
      let w2 = w.2 in let wl = k.low w.0 in let wh = k.high w.0 in
      let q = near s (omega arith) (omega arith) in
      let ol = k.low s in let oh = k.high s in
      let m = near (l - o) (omega (arith, e)) (omega (arith, e)) in
      let r = (k.least (l - o) l h (omega arith)).0 in
      omega (arith, r, e, ap (offset_at z) e)

  -- .. and no other second does
  reads_only : (v : ℕ) → v + offset_at z v ≡ l → v ≡ s
  reads_only v p =
      let q = reads-one in
      let oh = k.high s in let q' = near s (omega arith) (omega arith) in
      let vh = k.high v in
      omega (arith, near v (omega arith) (omega arith))

  listed-one : Member s (readings z l)
  unfolding readings
  listed-one =
      let a = l - (greatest_offset + 1) in
      let q = reads-one in
      let oh = k.high s in let q' = near s (omega arith) (omega arith) in
      let b = near a (omega arith) (omega arith) in
      filter-keeps (reads z l) (map (λ e. l - offset_at z e) (a ∷ changes_in z a l)) s (inl (omega arith)) (eq-eqb (s + offset_at z s) l (omega arith))

  plain_second : mark_of (readings z l) ≡ plain
  plain_second = one_plain s (readings z l) listed-one (λ v i. reads_only v (listed-reads z l v i))

-- ---- a time of day on a date that becomes the instant u, where the zone keeps one offset around u

module _ (z : Zone) (k : Sound z) (u o : ℕ) (low : first_instant + 4 * day ≤ u) (high : u + 4 * day ≤ last_instant)
    (same : (v : ℕ) → u - 4 * day ≤ v → v ≤ u + 4 * day → offset_nanos z v ≡ o) where
  raw-is : (d time : ℕ) → first_day ≤ d → d ≤ last_day → time < day → resolve z d time ≡ u → raw z d time ≡ u
  raw-is d time a b c e = go (raw z d time) (resolve z d time) (in-range z k d time a b c) e
    where
      go : (x y : ℕ) → Clamped x y → y ≡ u → x ≡ u
      go x y (kept p q) e = e
      go x y (early p) e = absurd (omega arith)
      go x y (late p) e = absurd (omega arith)

  -- the offset at a second around u
  near-second : (v : ℕ) → u / second ≤ v + first_local → v ≤ u / second + first_local → offset_at z v ≡ offset_at z (u / second)
  unfolding offset_nanos
  near-second v a b =
      let p = same (v * second) (omega arith) (omega arith) in
      let q = same u (omega arith) (omega arith) in
      let n : (v * second) / second ≡ v = omega arith in
      omega (arith, ap (offset_at z) n)

  pub plain-time : (d time : ℕ) → first_day ≤ d → d ≤ last_day → time < day → resolve z d time ≡ u → resolve_mark z d time ≡ plain
  unfolding resolve_mark raw
  plain-time d time a b c e =
      let l = d * day_seconds + time / second + offset_bias in
      let t : second_of z l * second + time % second ≡ u = raw-is d time a b c e in
      let n : second_of z l ≡ u / second = omega arith in
      rw (t, le-leb first_instant u (omega arith), le-leb u last_instant (omega arith))
      (plain_second z k l (u / second) (offset_at z (u / second)) (omega arith) n near-second)

-- ---- the ends of a rule's blocks

-- the rule's zone keeps one offset from four days before the instant lo to four days after the instant hi, and those lie in the range
pub record SteadyIn (lo hi : ℕ) (r : Rule) : Type 0 where
  pub ok : RuleOk r
  pub low : first_instant + 4 * day ≤ lo
  pub high : hi + 4 * day ≤ last_instant
  pub offset : ℕ
  pub same : (v : ℕ) → lo - 4 * day ≤ v → v ≤ hi + 4 * day → offset_nanos r.zone v ≡ offset

-- the same around one instant
abbrev pub SteadyAt : ℕ → Rule → Type 0
SteadyAt u r = SteadyIn u u r

pub steady-at : (lo hi u : ℕ) → lo ≤ u → u ≤ hi → (r : Rule) → SteadyIn lo hi r → SteadyAt u r
steady-at lo hi u a b r q =
    let l = q.low in let h = q.high in
    record { ok = q.ok; low = omega arith; high = omega arith; offset = q.offset; same = λ v i j. q.same v (omega arith) (omega arith) }

module _ (u : ℕ) (r : Rule) (q : SteadyAt u r) (d : ℕ) (a : first_day ≤ d) (b : d ≤ last_day) where
  pub plain-start-of : start_of r d ≡ u → resolve_mark r.zone d r.from ≡ plain
  unfolding start_of
  plain-start-of e = plain-time r.zone q.ok.sound u q.offset q.low q.high q.same d r.from a b q.ok.from-day e

  pub plain-end-of : end_of r d ≡ u → mark_by_end r d ≡ plain
  unfolding end_of mark_by_end
  plain-end-of e =
      by-test (ltb r.from r.to)
      (λ p. rw p (plain-time r.zone q.ok.sound u q.offset q.low q.high q.same d r.to a b q.ok.to-day (rw p at e)))
      (λ p. by-test (ltb d last_day)
      (λ m. rw (p, m) (plain-time r.zone q.ok.sound u q.offset q.low q.high q.same (d + 1) r.to (omega arith) (omega (arith, ltb-true d last_day m)) q.ok.to-day (rw (p, m) at e)))
      (λ m. absurd (let n : last_instant ≡ u = rw (p, m) at e in let h = q.high in omega arith)))

-- ---- whole blocks

every-joined : {A : Type 0} (P : A → Type 0) (l : List (List A)) → Every (Every P) l → Every P (joined l)
unfolding joined
every-joined P [] h = tt
every-joined P (a ∷ l) h = every-both P a (joined l) h.0 (every-joined P l h.1)

-- what holds of the blocks of each date holds of those of a list of dates
every-date : {A : Type 0} (P : A → Type 0) (on : ℕ → Bool) (f : ℕ → List A) (n d : ℕ) → ((c : ℕ) → d ≤ c → c < d + n → Every P (f c)) → Every (Every P) (map f (filter on (run d n)))
unfolding filter run
every-date P on f zero d h = tt
every-date P on f (suc n) d h =
    let rec = every-date P on f n (suc d) (λ c a b. h c (omega arith) (omega arith)) in
    by-test (on d) (λ p. rw p (h d (omega arith) (omega arith), rec)) (λ p. rw p rec)

-- what holds of the one block of each date of a window, if it is there, holds of the window's whole blocks
module _ (P : MarkedBlock → Type 0) (lo hi : ℕ) (from : first_instant ≤ lo) (to : hi ≤ last_instant) where
  abbrev OnDates : Rule → Type 0
  OnDates r = RuleOk r × ((d : ℕ) → first_day ≤ d → d ≤ last_day → P (marked (start_edge r d) (end_edge r d)))

  every-on : (r : Rule) → OnDates r → Every P (whole_of lo hi r)
  unfolding whole_of whole_on local_dates
  every-on r h =
      let x = first_date r.zone lo in let y = last_date r.zone hi in
      let i = first-from r.zone h.0.sound lo from in let j = last-upto r.zone h.0.sound hi to in
      every-joined P (map (whole_on r) (filter r.on (run x (y + 1 - x))))
      (every-date P r.on (whole_on r) (y + 1 - x) x (λ c a b. by-test (ltb (start_of r c) (end_of r c)) (λ p. rw p (h.1 c (omega arith) (omega arith), tt)) (λ p. rw p tt)))

  every-whole : (l : List Rule) → Every OnDates l → Every P (whole_of_all lo hi l)
  unfolding whole_of_all joined
  every-whole [] h = tt
  every-whole (r ∷ l) h = every-both P (whole_of lo hi r) (whole_of_all lo hi l) (every-on r h.0) (every-whole l h.1)

-- no mark but plain at u
abbrev PlainAt : ℕ → MarkedBlock → Type 0
PlainAt u b = (starts_with u b ≡ plain) × (ends_with u b ≡ plain)

steady-date : (u : ℕ) (r : Rule) → SteadyAt u r → (d : ℕ) → first_day ≤ d → d ≤ last_day → PlainAt u (marked (start_edge r d) (end_edge r d))
steady-date u r q d a b = (
  by-test (eqb (start_of r d) u) (λ p. rw p (plain-start-of u r q d a b (eqb-true (start_of r d) u p))) (λ p. rw p),
  by-test (eqb (end_of r d) u) (λ p. rw p (plain-end-of u r q d a b (eqb-true (end_of r d) u p))) (λ p. rw p),
)

best-plain : (u : ℕ) (l : List MarkedBlock) → Every (PlainAt u) l → (best_start u l ≡ plain) × (best_end u l ≡ plain)
unfolding best_start best_end
best-plain u [] h = (refl, refl)
best-plain u (b ∷ l) h =
    let r = best-plain u l h.1 in
    (rw (h.0.0, r.0), rw (h.0.1, r.1))

-- the best marks of the whole blocks of a window at u
pub plain-around : (u lo hi : ℕ) → first_instant ≤ lo → hi ≤ last_instant → (l : List Rule) → Every (SteadyAt u) l
    → (best_start u (whole_of_all lo hi l) ≡ plain) × (best_end u (whole_of_all lo hi l) ≡ plain)
plain-around u lo hi from to l h =
    best-plain u (whole_of_all lo hi l)
    (every-whole (PlainAt u) lo hi from to l (every_map (SteadyAt u) (OnDates (PlainAt u) lo hi from to) (λ r q. (q.ok, steady-date u r q)) l h))

start-by-plain : (w o : Around) → w.starts ≡ plain → o.ends ≡ plain → start_by w o ≡ plain
start-by-plain w o p q =
    by-test (w.here && not o.here)
    (λ a. rw a (by-test w.before (λ b. rw b (by-test o.before (λ c. rw c q) (λ c. rw c))) (λ b. rw b p)))
    (λ a. rw a)

end-by-plain : (w o : Around) → w.ends ≡ plain → o.starts ≡ plain → end_by w o ≡ plain
end-by-plain w o p q =
    by-test (w.before && not o.before)
    (λ a. rw a (by-test w.here (λ b. rw b (by-test o.here (λ c. rw c q) (λ c. rw c))) (λ b. rw b p)))
    (λ a. rw a)

-- the mark of a start and of an end at u
module _ (u lo hi : ℕ) (from : first_instant ≤ lo) (to : hi ≤ last_instant) (work off : List Rule) (w : Every (SteadyAt u) work) (o : Every (SteadyAt u) off) where
  pub start_plain : start_by (around_of u (whole_of_all lo hi work)) (around_of u (whole_of_all lo hi off)) ≡ plain
  start_plain =
      start-by-plain (around_of u (whole_of_all lo hi work)) (around_of u (whole_of_all lo hi off)) (plain-around u lo hi from to work w).0 (plain-around u lo hi from to off o).1

  pub end-plain : end_by (around_of u (whole_of_all lo hi work)) (around_of u (whole_of_all lo hi off)) ≡ plain
  end-plain =
      end-by-plain (around_of u (whole_of_all lo hi work)) (around_of u (whole_of_all lo hi off)) (plain-around u lo hi from to work w).1 (plain-around u lo hi from to off o).0

-- ---- a window in which every zone keeps one offset

-- both ends of a block are plain
abbrev pub PlainBlock : MarkedBlock → Type 0
PlainBlock b = (b.start.mark ≡ plain) × (b.end.mark ≡ plain)

module _ (lo hi : ℕ) where
  -- an end of a block is plain if it lies in the window
  abbrev PlainIn : Edge → Type 0
  PlainIn e = lo ≤ e.at → e.at ≤ hi → e.mark ≡ plain

  abbrev BothIn : MarkedBlock → Type 0
  BothIn b = PlainIn b.start × PlainIn b.end

  -- merging keeps that
  earlier-in : (a b : Edge) → PlainIn a → PlainIn b → PlainIn (earlier_start a b)
  earlier-in a b p q =
      by-test (ltb a.at b.at) (λ x. rw x p)
      (λ x. by-test (ltb b.at a.at) (λ y. rw (x, y) q)
      (λ y. rw (x, y) (λ i j. let e = ltb-false a.at b.at x in let f = ltb-false b.at a.at y in omega (arith, p i j, q (omega arith) (omega arith)))))

  later-in : (a b : Edge) → PlainIn a → PlainIn b → PlainIn (later_end a b)
  later-in a b p q =
      by-test (ltb b.at a.at) (λ x. rw x p)
      (λ x. by-test (ltb a.at b.at) (λ y. rw (x, y) q)
      (λ y. rw (x, y) (λ i j. let e = ltb-false b.at a.at x in let f = ltb-false a.at b.at y in omega (arith, p i j, q (omega arith) (omega arith)))))

  insert-in : (b : MarkedBlock) (l : List MarkedBlock) → BothIn b → Every BothIn l → Every BothIn (insert_marked b l)
  unfolding insert_marked
  insert-in b [] p h = (p, tt)
  insert-in b (c ∷ l) p h = by-test (leb b.start.at c.start.at) (λ x. rw x (p, h)) (λ x. rw x (h.0, insert-in b l p h.1))

  sorted-in : (l : List MarkedBlock) → Every BothIn l → Every BothIn (sorted_marked l)
  unfolding sorted_marked
  sorted-in [] h = tt
  sorted-in (b ∷ l) h = insert-in b (sorted_marked l) h.0 (sorted-in l h.1)

  merged-from-in : (b : MarkedBlock) (l : List MarkedBlock) → BothIn b → Every BothIn l → Every BothIn (merged_marked_from b l)
  unfolding merged_marked_from
  merged-from-in b [] p h = (p, tt)
  merged-from-in b (c ∷ l) p h =
      by-test (leb c.start.at b.end.at)
      (λ x. rw x (merged-from-in (marked (earlier_start b.start c.start) (later_end b.end c.end)) l
      (earlier-in b.start c.start p.0 h.0.0, later-in b.end c.end p.1 h.0.1) h.1))
      (λ x. rw x (p, merged-from-in c l h.0 h.1))

  merged-in : (l : List MarkedBlock) → Every BothIn l → Every BothIn (merged_marked l)
  unfolding merged_marked
  merged-in [] h = tt
  merged-in (b ∷ l) h = merged-from-in b l h.0 h.1

  union-in : (l : List MarkedBlock) → Every BothIn l → Every BothIn (union_marked l)
  unfolding union_marked
  union-in l h = merged-in (sorted_marked l) (sorted-in l h)

  -- subtracting keeps it
  put_in : (P : MarkedBlock → Type 0) (s e : Edge) (l : List MarkedBlock) → (s.at < e.at → P (marked s e)) → Every P l → Every P (put_marked s e l)
  put_in P s e l p h = by-test (ltb s.at e.at) (λ x. rw x (p (ltb-true s.at e.at x), h)) (λ x. rw x h)

  cut_in : (s e : Edge) (off : List MarkedBlock) → PlainIn s → PlainIn e → Every BothIn off → Every BothIn (cut_marked s e off)
  unfolding cut_marked
  cut_in s e [] p q h = put_in BothIn s e [] (λ x. (p, q)) tt
  cut_in s e (g ∷ off) p q h =
      by-test (leb g.end.at s.at)
      (λ x. rw x (cut_in s e off p q h.1))
      (λ x. by-test (leb e.at g.start.at)
      (λ y. rw (x, y) (put_in BothIn s e [] (λ w. (p, q)) tt))
      (λ y. rw (x, y) (put_in BothIn s g.start (cut_marked g.end e off) (λ w. (p, h.0.0)) (cut_in g.end e off h.0.1 q h.1))))

  subtract-in : (l off : List MarkedBlock) → Every BothIn l → Every BothIn off → Every BothIn (subtract_marked l off)
  unfolding subtract_marked
  subtract-in [] off h o = tt
  subtract-in (b ∷ l) off h o =
      every-both BothIn (cut_marked b.start b.end off) (subtract_marked l off) (cut_in b.start b.end off h.0.0 h.0.1 o) (subtract-in l off h.1 o)

  -- an end moved by the window is plain, and one that is not moved lies in it
  before-in : (s : Edge) → (lo ≤ (not_before lo s).at) × (PlainIn s → (not_before lo s).at ≤ hi → (not_before lo s).mark ≡ plain)
  before-in s = by-test (ltb s.at lo) (λ x. rw x (omega arith, λ p i. refl)) (λ x. rw x (ltb-false s.at lo x, λ p i. p (ltb-false s.at lo x) i))

  behind-in : (e : Edge) → ((not_behind hi e).at ≤ hi) × (PlainIn e → lo ≤ (not_behind hi e).at → (not_behind hi e).mark ≡ plain)
  behind-in e = by-test (ltb hi e.at) (λ x. rw x (omega arith, λ p i. refl)) (λ x. rw x (ltb-false hi e.at x, λ p i. p i (ltb-false hi e.at x)))

  windowed-plain : (l : List MarkedBlock) → Every BothIn l → Every PlainBlock (windowed lo hi l)
  unfolding windowed
  windowed-plain [] h = tt
  windowed-plain (b ∷ l) h =
      put_in PlainBlock (not_before lo b.start) (not_behind hi b.end) (windowed lo hi l)
      (λ x. let s = before-in b.start in let e = behind-in b.end in
      (s.1 h.0.0 (omega (arith, e.0)), e.1 h.0.1 (omega (arith, s.0))))
      (windowed-plain l h.1)

  -- a date's block of such a rule
  date-in : (r : Rule) → SteadyIn lo hi r → (d : ℕ) → first_day ≤ d → d ≤ last_day → BothIn (marked (start_edge r d) (end_edge r d))
  date-in r q d a b = (
    λ i j. plain-start-of (start_of r d) r (steady-at lo hi (start_of r d) i j r q) d a b refl,
    λ i j. plain-end-of (end_of r d) r (steady-at lo hi (end_of r d) i j r q) d a b refl,
  )

  whole_in : first_instant ≤ lo → hi ≤ last_instant → (l : List Rule) → Every (SteadyIn lo hi) l → Every BothIn (whole_of_all lo hi l)
  whole_in from to l h = every-whole BothIn lo hi from to l (every_map (SteadyIn lo hi) (OnDates BothIn lo hi from to) (λ r q. (q.ok, date-in r q)) l h)

-- every block of the window is plain
pub working-plain : (s : Schedule) (lo hi : ℕ) → first_instant ≤ lo → hi ≤ last_instant → OfRules (SteadyIn lo hi) s → Every PlainBlock (marked_working s lo hi)
unfolding marked_working
working-plain s lo hi from to h =
    windowed-plain lo hi (subtract_marked (union_marked (whole_of_all lo hi s.work)) (union_marked (whole_of_all lo hi (off_rules s))))
    (subtract-in lo hi (union_marked (whole_of_all lo hi s.work)) (union_marked (whole_of_all lo hi (off_rules s)))
    (union-in lo hi (whole_of_all lo hi s.work) (whole_in lo hi from to s.work h.0))
    (union-in lo hi (whole_of_all lo hi (off_rules s)) (whole_in lo hi from to (off_rules s) h.1)))
