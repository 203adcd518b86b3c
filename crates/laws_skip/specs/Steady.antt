-- Windows in a span without change of offset. There a date's clipped block is what the one offset gives, so the blocks of a date are those of
-- the date a week before, a week later; and a holiday outside the span's local dates reaches into no window of it.
use Rattle.std.specs.Prelude.{◌≡◌, Bool, true, false, ◌&&◌, ◌⊎◌, ℕ, zero, suc, ◌+◌, ◌*◌, ◌-◌, ◌/◌, ◌≤◌, ◌<◌, min, max, ltb, if◌then◌else◌}
use Rattle.std.proofs.Math.Path.{refl, sym, ap, ap₂}
use Rattle.std.proofs.Common.{◌∙◌, ⊎_elim}
use Rattle.std.proofs.Math.Logic.{inl, inr}
use mathlib.Core.List.{List, [], ◌∷◌, ◌++◌, map, append-nil, append_assoc}
use native.Mathlib.Omega.{arith}
use Rattle.std.proofs.Math.Decide.{dec_le}
use Rattle.std.proofs.Math.Dec.{leb}
use borrow.Author.Tests.{leb-true, leb-false, lt-ltb, le-ltb, le-leb}
use Rattle.model.specs.Basic.{all, any, among, is_in, filter, run, joined}
use Rattle.model.specs.Calendar.{first_day, last_day, contains}
use Rattle.model.specs.Instant.{second, day, week, first_instant, last_instant}
use Rattle.model.specs.Offset.{greatest_offset}
use Rattle.model.specs.Tzif.{Zone}
use Rattle.model.specs.Zone.{resolve}
use Rattle.model.specs.Book.{Hours}
use Rattle.model.specs.Blocks.{Block, put, clipped, union, subtract}
use Rattle.model.specs.Working.{Rule, Holidays, Schedule, shift_rule, holiday_rule, first_date, last_date, local_dates, start_of, end_of, blocks_of, blocks_of_all, working}
use Rattle.model.specs.Skip.{rule_steady, none_near, repeats}
use Rattle.laws_base.specs.Test.{by-test, and_both, clash, not-true, all_head}
use Rattle.laws_base.specs.Members.{any-in}
use Rattle.laws_zone.specs.Changes.{any_none}
use Rattle.laws_zone.specs.Sound.{Sound}
use Rattle.laws_blocks.specs.Move.{moves, moves-append, clipped-moved, union-moved, subtract-moved}
use Rattle.laws_base.specs.Every.{Every, every-apart}
use Rattle.laws_demand3.specs.Windows.{RuleOk, OfRules}
use Rattle.laws_demand3.specs.Local.{bias, offset_nanos, raw, Clamped, kept, early, late, offset-low, offset-high, raw-some, raw-least, in-range, same-offset, day-is, first-from, last-upto, first-upto, last-from}

-- ---- clipped blocks

-- equal, or both at or before lo
abbrev Alike : ℕ → ℕ → ℕ → Type 0
Alike lo a b = (a ≡ b) ⊎ ((a ≤ lo) × (b ≤ lo))

clipped-none : (lo hi s e : ℕ) → min e hi ≤ max s lo → clipped lo hi s e ≡ []
unfolding clipped
clipped-none lo hi s e h = rw (le-ltb (max s lo) (min e hi) h)

clipped-alike : (lo hi s s' e e' : ℕ) → Alike lo s s' → Alike lo e e' → clipped lo hi s e ≡ clipped lo hi s' e'
unfolding clipped
clipped-alike lo hi s s' e e' a b =
    ⊎_elim
    (λ q. ap₂ (λ x y. put x y []) (⊎_elim (λ p. ap (λ x. max x lo) p) (λ p. omega arith) a) (ap (λ x. min x hi) q))
    (λ q. clipped-none lo hi s e (omega arith) ∙ sym (clipped-none lo hi s' e' (omega arith))) b

-- ---- a span [S, E] with one offset o

module _ (z : Zone) (s : Sound z) (S E o : ℕ) (low : first_instant ≤ S) (up : E ≤ last_instant) (same : (u : ℕ) → S ≤ u → u ≤ E → offset_nanos z u ≡ o) where
  -- a local time of the span is what the one offset gives, or both lie before the window
  near-instant : (lo d time : ℕ) → S + 4 * day ≤ lo → first_day ≤ d → d ≤ last_day → time < day → S + o ≤ d * day + time + bias → d * day + time + bias ≤ E + o
      → Alike lo (resolve z d time) (d * day + time + bias - o)
  near-instant lo d time a b c e f g =
      let m = d * day + time + bias - o in
      let r = raw-least z s m d time b (let q = same m (omega arith) (omega arith) in omega arith) in
      let r0 = r.0 in let r1 = r.1 in
      known (raw z d time) (resolve z d time) (in-range z s d time b c e) r0 r1 (dec_le S (raw z d time))
    where
      known : (x y : ℕ) → Clamped x y → x + offset_nanos z x ≡ d * day + time + bias → x ≤ d * day + time + bias - o → Dec (S ≤ x) → Alike lo y (d * day + time + bias - o)
      known x y (kept p q) h k (yes v) = inl (let n = same x v (omega arith) in omega arith)
      known x y (kept p q) h k (no v) = inr (let n = offset-high z s x in omega arith)
      known x y (early p) h k v = inr (let n = offset-high z s x in omega arith)
      known x y (late p) h k v = absurd (omega arith)

-- the end's time of day, counted from the start's date
unfoldable pub till : Rule → ℕ
till r = if ltb r.from r.to then r.to else r.to + day

-- the local time less the offset
abbrev pub less : ℕ → ℕ → ℕ → ℕ
less o d time = d * day + time + bias - o

module _ (r : Rule) (ok : RuleOk r) (S E o : ℕ) (low : first_instant ≤ S) (up : E ≤ last_instant) (same : (u : ℕ) → S ≤ u → u ≤ E → offset_nanos r.zone u ≡ o)
    (ob : second ≤ o) (oh : o ≤ greatest_offset * second) where
  near-end : (lo hi d : ℕ) → S + 4 * day ≤ lo → hi + 4 * day ≤ E → lo + o ≤ (d + 3) * day + bias → d * day + bias ≤ hi + o + day → Alike lo (end_of r d) (less o d (till r))
  unfolding end_of till
  near-end lo hi d a b c e =
      let th = ok.to-day in
      by-test (ltb r.from r.to)
      (λ p. rw p (near-instant r.zone ok.sound S E o low up same lo d r.to a (omega arith) (omega arith) th (omega arith) (omega arith)))
      (λ p. rw (p, lt-ltb d last_day (omega arith))
      (⊎_elim (λ q. inl (q ∙ omega arith)) (λ q. inr (q.0, omega (arith, q.1)))
      (near-instant r.zone ok.sound S E o low up same lo (d + 1) r.to a (omega arith) (omega arith) th (omega arith) (omega arith))))

  -- what a date shows of a window of the span
  pub const-piece : (lo hi d : ℕ) → S + 4 * day ≤ lo → hi + 4 * day ≤ E → lo + o ≤ (d + 3) * day + bias → d * day + bias ≤ hi + o + day
      → clipped lo hi (start_of r d) (end_of r d) ≡ clipped lo hi (less o d r.from) (less o d (till r))
  unfolding start_of
  const-piece lo hi d a b c e =
      let fh = ok.from-day in
      clipped-alike lo hi (start_of r d) (less o d r.from) (end_of r d) (less o d (till r))
      (near-instant r.zone ok.sound S E o low up same lo d r.from a (omega arith) (omega arith) fh (omega arith) (omega arith))
      (near-end lo hi d a b c e)

  less-week : (d x : ℕ) → o ≤ d * day → less o (d + 7) x ≡ less o d x + week
  less-week d x h = omega arith

  piece-week : (lo hi d : ℕ) → S + 4 * day ≤ lo → hi + week + 4 * day ≤ E → lo + o ≤ (d + 3) * day + bias → d * day + bias ≤ hi + o + day
      → clipped (lo + week) (hi + week) (start_of r (d + 7)) (end_of r (d + 7)) ≡ moves week (clipped lo hi (start_of r d) (end_of r d))
  piece-week lo hi d a b c e =
      const-piece (lo + week) (hi + week) (d + 7) (omega arith) b (omega arith) (omega arith)
      ∙ ap₂ (clipped (lo + week) (hi + week)) (less-week d r.from (omega arith)) (less-week d (till r) (omega arith))
      ∙ clipped-moved week lo hi (less o d r.from) (less o d (till r))
      ∙ ap (moves week) (sym (const-piece lo hi d a (omega arith) c e))

-- ---- a rule's blocks, date by date

-- the blocks of a list of dates, for whatever a date shows
abbrev shown : (ℕ → Bool) → (ℕ → List Block) → List ℕ → List Block
shown on f l = joined (map f (filter on l))

shown-none : (on : ℕ → Bool) (f : ℕ → List Block) → shown on f [] ≡ []
unfolding joined filter
shown-none on f = refl

shown-on : (on : ℕ → Bool) (f : ℕ → List Block) (d : ℕ) (l : List ℕ) → on d ≡ true → shown on f (d ∷ l) ≡ f d ++ shown on f l
unfolding joined filter
shown-on on f d l p = rw p

shown-off : (on : ℕ → Bool) (f : ℕ → List Block) (d : ℕ) (l : List ℕ) → on d ≡ false → shown on f (d ∷ l) ≡ shown on f l
unfolding joined filter
shown-off on f d l p = rw p

-- dates that show the same each
shown-same : (on : ℕ → Bool) (f g : ℕ → List Block) (n d : ℕ) → ((k : ℕ) → d ≤ k → k < d + n → f k ≡ g k) → shown on f (run d n) ≡ shown on g (run d n)
unfolding run
shown-same on f g zero d h = shown-none on f ∙ sym (shown-none on g)
shown-same on f g (suc n) d h =
    let rec : shown on f (run (suc d) n) ≡ shown on g (run (suc d) n) = shown-same on f g n (suc d) (λ k a b. h k (omega arith) (omega arith)) in
    by-test (on d)
    (λ p. shown-on on f d (run (suc d) n) p ∙ ap₂ ◌++◌ (h d (omega arith) (omega arith)) rec ∙ sym (shown-on on g d (run (suc d) n) p))
    (λ p. shown-off on f d (run (suc d) n) p ∙ rec ∙ sym (shown-off on g d (run (suc d) n) p))

-- dates a week apart that show the same, a week apart
shown-week : (on : ℕ → Bool) (f g : ℕ → List Block) → ((k : ℕ) → on (k + 7) ≡ on k) → (n d : ℕ) → ((k : ℕ) → d ≤ k → k < d + n → f (k + 7) ≡ moves week (g k))
    → shown on f (run (d + 7) n) ≡ moves week (shown on g (run d n))
unfolding run moves
shown-week on f g w zero d h = shown-none on f ∙ ap (moves week) (sym (shown-none on g))
shown-week on f g w (suc n) d h =
    let rec : shown on f (run (suc (d + 7)) n) ≡ moves week (shown on g (run (suc d) n)) =
    ap (λ k. shown on f (run k n)) (omega arith) ∙ shown-week on f g w n (suc d) (λ k a b. h k (omega arith) (omega arith)) in
    by-test (on d)
    (λ p. shown-on on f (d + 7) (run (suc (d + 7)) n) (w d ∙ p) ∙ ap₂ ◌++◌ (h d (omega arith) (omega arith)) rec
    ∙ sym (moves-append week (g d) (shown on g (run (suc d) n))) ∙ ap (moves week) (sym (shown-on on g d (run (suc d) n) p)))
    (λ p. shown-off on f (d + 7) (run (suc (d + 7)) n) (w d ∙ p) ∙ rec ∙ ap (moves week) (sym (shown-off on g d (run (suc d) n) p)))

-- dates that show nothing
shown-nothing : (on : ℕ → Bool) (f : ℕ → List Block) (n d : ℕ) → ((k : ℕ) → d ≤ k → k < d + n → on k ≡ true → f k ≡ []) → shown on f (run d n) ≡ []
unfolding run
shown-nothing on f zero d h = shown-none on f
shown-nothing on f (suc n) d h =
    let rec : shown on f (run (suc d) n) ≡ [] = shown-nothing on f n (suc d) (λ k a b. h k (omega arith) (omega arith)) in
    by-test (on d)
    (λ p. shown-on on f d (run (suc d) n) p ∙ ap₂ ◌++◌ (h d (omega arith) (omega arith) p) rec)
    (λ p. shown-off on f d (run (suc d) n) p ∙ rec)

-- the rule shows the same dates each week
abbrev pub Weekly : Rule → Type 0
Weekly r = (d : ℕ) → r.on (d + 7) ≡ r.on d

pub shift-weekly : (z : Zone) (h : Hours) → Weekly (shift_rule z h)
shift-weekly z h d = ap (contains h.days) (omega arith)

-- what a date shows of a window
abbrev piece_on : Rule → ℕ → ℕ → ℕ → List Block
piece_on r lo hi d = clipped lo hi (start_of r d) (end_of r d)

module _ (r : Rule) (ok : RuleOk r) (S E o : ℕ) (low : first_instant ≤ S) (up : E ≤ last_instant) (same : (u : ℕ) → S ≤ u → u ≤ E → offset_nanos r.zone u ≡ o)
    (ob : second ≤ o) (oh : o ≤ greatest_offset * second) where
  first-is : (lo : ℕ) → S + 4 * day ≤ lo → lo ≤ E → first_date r.zone lo ≡ (lo + o - bias) / day - 2
  unfolding first_date
  first-is lo a b = rw (day-is r.zone ok.sound lo, same lo (omega arith) b, le-leb (first_day + 2) ((lo + o - bias) / day) (omega arith))

  last-is : (hi : ℕ) → S ≤ hi → hi + 4 * day ≤ E → last_date r.zone hi ≡ (hi + o - bias) / day + 1
  unfolding last_date
  last-is hi a b = rw (day-is r.zone ok.sound hi, same hi a (omega arith), lt-ltb ((hi + o - bias) / day) last_day (omega arith))

  -- in a window of the span each date's local times may be turned into instants by subtracting the one offset
  pub const-date : (lo hi d : ℕ) → S + 4 * day ≤ lo → lo ≤ hi → hi + 4 * day ≤ E → first_date r.zone lo ≤ d → d ≤ last_date r.zone hi
      → piece_on r lo hi d ≡ clipped lo hi (less o d r.from) (less o d (till r))
  const-date lo hi d a h b k l =
      let p = first-is lo a (omega arith) in let q = last-is hi (omega arith) b in
      const-piece r ok S E o low up same ob oh lo hi d a b (omega arith) (omega arith)

  week-date : (lo hi d : ℕ) → S + 4 * day ≤ lo → lo ≤ hi → hi + week + 4 * day ≤ E → first_date r.zone lo ≤ d → d ≤ last_date r.zone hi
      → piece_on r (lo + week) (hi + week) (d + 7) ≡ moves week (piece_on r lo hi d)
  week-date lo hi d a h b k l =
      let p = first-is lo a (omega arith) in let q = last-is hi (omega arith) (omega arith) in
      piece-week r ok S E o low up same ob oh lo hi d a b (omega arith) (omega arith)

  rule-week : Weekly r → (lo hi : ℕ) → S + 4 * day ≤ lo → lo ≤ hi → hi + week + 4 * day ≤ E → blocks_of (lo + week) (hi + week) r ≡ moves week (blocks_of lo hi r)
  unfolding blocks_of local_dates
  rule-week w lo hi a h b =
      let x = first_date r.zone lo in let y = last_date r.zone hi in
      let f = first-week lo (omega arith) (first-is lo a (omega arith)) (first-is (lo + week) (omega arith) (omega arith)) in
      let g = last-week hi (omega arith) (last-is hi (omega arith) (omega arith)) (last-is (hi + week) (omega arith) (omega arith)) in
      ap₂ (λ i j. shown r.on (piece_on r (lo + week) (hi + week)) (run i j)) f (omega arith)
      ∙ shown-week r.on (piece_on r (lo + week) (hi + week)) (piece_on r lo hi) w (y + 1 - x) x (λ k i j. week-date lo hi k a h b i (omega arith))
    where
      first-week : (t : ℕ) → first_instant ≤ t → first_date r.zone t ≡ (t + o - bias) / day - 2 → first_date r.zone (t + week) ≡ (t + week + o - bias) / day - 2 → first_date r.zone (t + week) ≡ first_date r.zone t + 7
      first-week t h p q = omega arith

      last-week : (t : ℕ) → first_instant ≤ t → last_date r.zone t ≡ (t + o - bias) / day + 1 → last_date r.zone (t + week) ≡ (t + week + o - bias) / day + 1 → last_date r.zone (t + week) ≡ last_date r.zone t + 7
      last-week t h p q = omega arith

-- ---- a date outside the span's local dates reaches into no window of it

module _ (r : Rule) (ok : RuleOk r) (S E : ℕ) (low : first_instant ≤ S) (up : E ≤ last_instant) (lo hi : ℕ) (o : lo ≤ hi) (a : S + 4 * day ≤ lo) (b : hi + 4 * day ≤ E) where
  below : (x y : ℕ) → Clamped x y → x ≤ lo → y ≤ lo
  below x y (kept p q) h = h
  below x y (early p) h = omega arith
  below x y (late p) h = omega arith

  above : (x y : ℕ) → Clamped x y → hi ≤ x → hi ≤ y
  above x y (kept p q) h = h
  above x y (early p) h = omega arith
  above x y (late p) h = omega arith

  first-before : (d : ℕ) → d < first_date r.zone S → d < (S + offset_nanos r.zone S - bias) / day
  first-before d h = let q = day-is r.zone ok.sound S in let p = first-upto r.zone ok.sound S in omega arith

  last-behind : (d : ℕ) → last_date r.zone E < d → (E + offset_nanos r.zone E - bias) / day < d
  last-behind d h = let q = day-is r.zone ok.sound E in let p = last-from r.zone ok.sound E in omega arith

  ends-early : (d : ℕ) → first_day ≤ d → d ≤ last_day → d < first_date r.zone S → end_of r d ≤ lo
  unfolding end_of
  ends-early d h k f =
      let g = first-before d f in let oh = offset-high r.zone ok.sound S in
      by-test (ltb r.from r.to)
      (λ p. rw p (upto d (omega arith) h k))
      (λ p. rw (p, lt-ltb d last_day (omega arith)) (upto (d + 1) (omega arith) (omega arith) (omega arith)))
    where
      upto : (c : ℕ) → c ≤ d + 1 → first_day ≤ c → c ≤ last_day → resolve r.zone c r.to ≤ lo
      upto c x y v =
          let g = first-before d f in let oh = offset-high r.zone ok.sound S in let th = ok.to-day in
          let w = raw-some r.zone ok.sound c r.to y in
          let w1 = w.1 in let wl = offset-low r.zone ok.sound w.0 in
          below (raw r.zone c r.to) (resolve r.zone c r.to) (in-range r.zone ok.sound c r.to y v th) (omega arith)

  starts-late : (d : ℕ) → first_day ≤ d → d ≤ last_day → last_date r.zone E < d → hi ≤ start_of r d
  unfolding start_of
  starts-late d h k f =
      let g = last-behind d f in let ol = offset-low r.zone ok.sound E in
      let w = raw-some r.zone ok.sound d r.from h in
      let w1 = w.1 in let wh = offset-high r.zone ok.sound w.0 in
      above (raw r.zone d r.from) (resolve r.zone d r.from) (in-range r.zone ok.sound d r.from h k ok.from-day) (omega arith)

  date-none : (d : ℕ) → first_day ≤ d → d ≤ last_day → (d < first_date r.zone S) ⊎ (last_date r.zone E < d) → piece_on r lo hi d ≡ []
  date-none d h k (inl q) = let e = ends-early d h k q in clipped-none lo hi (start_of r d) (end_of r d) (omega arith)
  date-none d h k (inr q) = let e = starts-late d h k q in clipped-none lo hi (start_of r d) (end_of r d) (omega arith)

  rule-none : ((d : ℕ) → r.on d ≡ true → (d < first_date r.zone S) ⊎ (last_date r.zone E < d)) → blocks_of lo hi r ≡ []
  unfolding blocks_of local_dates
  rule-none far =
      let x = first_date r.zone lo in let y = last_date r.zone hi in
      let f = first-from r.zone ok.sound lo (omega arith) in let g = last-upto r.zone ok.sound hi (omega arith) in
      shown-nothing r.on (piece_on r lo hi) (y + 1 - x) x (λ k i j p. date-none k (omega arith) (omega arith) (far k p))

-- ---- a schedule

all_append : {A : Type 0} (t : A → Bool) (l k : List A) → all t (l ++ k) ≡ true → (all t l ≡ true) × (all t k ≡ true)
unfolding all
all_append t [] k h = (refl, h)
all_append t (a ∷ l) k h =
    let p = all_head t a (l ++ k) h in
    let q = all_append t l k p.1 in
    (rw p.0 q.0, q.1)

-- a holiday that no test finds near is outside the span's local dates
far-of : (h : Holidays) (S E d : ℕ) → none_near S E h ≡ true → among h.dates d ≡ true → (d < first_date h.zone S) ⊎ (last_date h.zone E < d)
far-of h S E d e f =
    let x = first_date h.zone S in let y = last_date h.zone E in
    let n = any_none (is_in x y) h.dates d (not-true (any (is_in x y) h.dates) e) (any-in d h.dates f) in
    by-test (leb x d)
    (λ p. by-test (leb d y) (λ q. clash (is_in x y d) (rw (p, q)) n) (λ q. inr (leb-false d y q)))
    (λ p. inl (leb-false x d p))

blocks-append : (lo hi : ℕ) (l k : List Rule) → blocks_of_all lo hi (l ++ k) ≡ blocks_of_all lo hi l ++ blocks_of_all lo hi k
unfolding joined
blocks-append lo hi [] k = refl
blocks-append lo hi (r ∷ l) k = rw (blocks-append lo hi l k) (sym (append_assoc (blocks_of lo hi r) (blocks_of_all lo hi l) (blocks_of_all lo hi k)))

module _ (S E : ℕ) (low : first_instant ≤ S) (up : E ≤ last_instant) where
  rules-week : (lo hi : ℕ) → S + 4 * day ≤ lo → lo ≤ hi → hi + week + 4 * day ≤ E → (l : List Rule) → Every RuleOk l → Every Weekly l → all (rule_steady S E) l ≡ true
      → blocks_of_all (lo + week) (hi + week) l ≡ moves week (blocks_of_all lo hi l)
  unfolding joined moves
  rules-week lo hi a h b [] ok w e = refl
  rules-week lo hi a h b (r ∷ l) ok w e =
      let k = all_head (rule_steady S E) r l e in
      let z = r.zone in
      let sd = ok.0.sound in
      ap₂ ◌++◌
      (rule-week r ok.0 S E (offset_nanos z S) low up (λ u p q. same-offset z sd S E low k.0 u p q) (offset-low z sd S) (offset-high z sd S) w.0 lo hi a h b)
      (rules-week lo hi a h b l ok.1 w.1 k.1)
      ∙ sym (moves-append week (blocks_of lo hi r) (blocks_of_all lo hi l))

  holidays-none : (lo hi : ℕ) → S + 4 * day ≤ lo → lo ≤ hi → hi + 4 * day ≤ E → (l : List Holidays) → Every RuleOk (map holiday_rule l) → all (none_near S E) l ≡ true
      → blocks_of_all lo hi (map holiday_rule l) ≡ []
  unfolding joined
  holidays-none lo hi a h b [] ok e = refl
  holidays-none lo hi a h b (d ∷ l) ok e =
      let k = all_head (none_near S E) d l e in
      ap₂ ◌++◌ (rule-none (holiday_rule d) ok.0 S E low up lo hi h a b (λ c f. far-of d S E c k.0 f)) (holidays-none lo hi a h b l ok.1 k.1)

-- the work and break rules show the same dates each week
abbrev pub WeeklyRules : Schedule → Type 0
WeeklyRules s = Every Weekly s.work × Every Weekly s.breaks

module _ (s : Schedule) (ok : OfRules RuleOk s) (w : WeeklyRules s) where
  working-week : (S E lo hi : ℕ) → first_instant ≤ S → E ≤ last_instant → S + 4 * day ≤ lo → lo ≤ hi → hi + week + 4 * day ≤ E
      → all (rule_steady S E) s.work ≡ true → all (rule_steady S E) s.breaks ≡ true → all (none_near S E) s.holidays ≡ true
      → working s (lo + week) (hi + week) ≡ moves week (working s lo hi)
  unfolding working
  working-week S E lo hi low up a h b p q n =
      let oks = every-apart RuleOk s.breaks (map holiday_rule s.holidays) ok.1 in
      ap₂ subtract
      (ap union (rules-week S E low up lo hi a h b s.work ok.0 w.0 p) ∙ union-moved week (blocks_of_all lo hi s.work))
      (ap union (blocks-append (lo + week) (hi + week) s.breaks (map holiday_rule s.holidays)
      ∙ ap₂ ◌++◌ (rules-week S E low up lo hi a h b s.breaks oks.0 w.1 q)
      (holidays-none S E low up (lo + week) (hi + week) (omega arith) (omega arith) b s.holidays oks.1 n)
      ∙ append-nil (moves week (blocks_of_all lo hi s.breaks)))
      ∙ union-moved week (blocks_of_all lo hi s.breaks)
      ∙ ap (λ l. moves week (union l)) (sym (blocks-append lo hi s.breaks (map holiday_rule s.holidays)
      ∙ ap (λ l. blocks_of_all lo hi s.breaks ++ l) (holidays-none S E low up lo hi a h (omega arith) s.holidays oks.1 n)
      ∙ append-nil (blocks_of_all lo hi s.breaks))))
      ∙ subtract-moved week (union (blocks_of_all lo hi s.work)) (union (blocks_of_all lo hi (s.breaks ++ map holiday_rule s.holidays)))

  -- where the skip test passes, the window's blocks are those of the window before, a week later
  pub repeats-week : (t : ℕ) → repeats s t ≡ true → (week ≤ t) × (working s t (t + week) ≡ moves week (working s (t - week) t))
  unfolding repeats
  repeats-week t e =
      let S = t - 11 * day in let E = t + 11 * day in
      let k = and_both (leb (first_instant + 11 * day) t && leb E last_instant) (all (rule_steady S E) (s.work ++ s.breaks) && all (none_near S E) s.holidays) e in
      let r = and_both (leb (first_instant + 11 * day) t) (leb E last_instant) k.0 in
      let m = and_both (all (rule_steady S E) (s.work ++ s.breaks)) (all (none_near S E) s.holidays) k.1 in
      let n = all_append (rule_steady S E) s.work s.breaks m.0 in
      let x = leb-true (first_instant + 11 * day) t r.0 in let y = leb-true E last_instant r.1 in
      let z : t - week + week ≡ t = omega arith in
      (omega arith, rw z at (working-week S E (t - week) t (omega arith) y (omega arith) (omega arith) (omega arith) n.0 n.1 m.1))
