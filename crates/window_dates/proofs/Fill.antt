-- The dates of a window and of a rule in it, and the rules of a counted array. Assumes nothing.
use Prim.Native.Nat.{ℕ, suc, ◌+◌, ◌*◌, ◌-◌, ◌/◌, ◌≤◌, ◌<◌}
use mathlib.Core.Path.{◌≡◌, refl, sym, ◌∙◌, ap}
use mathlib.Core.Bool.{Bool, true, false}
use mathlib.Core.List.{List, [], ◌∷◌, ◌++◌, map, append_assoc, append-nil}
use native.Mathlib.Omega.{arith}
use native.Mathlib.Numerals.{add-one}
use lib.Dec.{eqb}
use borrow.Author.Tests.{eqb-true}
use lib.ListN.{length, take, drop, get_or, drop_of_length-le}
use lib.Seq.{drop-cons, get_or-take, length-take-le}
use Rattle.model.specs.Basic.{any, among, distinct, filter, run, joined}
use Rattle.model.specs.Blocks.{Block}
use Rattle.model.specs.Calendar.{contains, weekday}
use Rattle.model.specs.Tzif.{Zone}
use Rattle.model.specs.DayNumber.{signed_day}
use Rattle.model.specs.Instant.{second, last_instant}
use Rattle.model.specs.Zone.{offset_at}
use Rattle.zone_local.proofs.Facts.{local-is, first_back, last_on, kept_small}
use Rattle.model.specs.Working.{Rule, local_day, first_date, last_date, start_of, end_of, blocks_of, blocks_of_all}
use Rattle.laws_base.specs.Test.{by-test}
use Rattle.laws_calendar.specs.Numbers.{is_number, day-given}
use Rattle.laws_zone.specs.Sound.{Sound}
use Rattle.laws_zone.specs.Zones.{fits-sound}
use Rattle.laws_demand3.specs.Local.{offset_nanos, offset-high, day-is, first-from, first-upto, last-upto}
use Rattle.laws_skip.specs.Counts.{dates-most}
use Rattle.zone.specs.Zones.{zone_is, ZoneOk}
use Rattle.zone.specs.declared.Zone.{Zone as Zone'}
use Rattle.civil.specs.Dates.{calendar_days, time_in}
use Rattle.instant.specs.Instant.{nanos}
use Rattle.instant.specs.declared.Instant.{Instant}
use Rattle.block.specs.declared.Block.{Block as Item}
use Rattle.zone_local.specs.Dates.{IsDay, held, piece_of, during, KeepsOffset, IsIn}
use Rattle.rule.specs.declared.Rule.{Rule as Rule'}
use Rattle.window_dates.specs.Windows.{Window, IsLocalDates, OffsetHolds, day_by, from_day, upto_day}
use Rattle.window_dates.specs.declared.LocalDates.{LocalDates}
use Rattle.rule.specs.Rules.{file_at, rule_is}

-- ---- the dates of a rule

-- what the dates of a list show, those that are on
abbrev pub shown : {B : Type 0} → (ℕ → Bool) → (ℕ → List B) → List ℕ → List B
shown on f l = joined (map f (filter on l))

-- what the weekday of one day tells of another that is the same
pub told-on : (set : ℕ) {d e : ℕ} {b a : Bool} → d ≡ e → b ≡ contains set (weekday d) → b ≡ a → contains set (weekday e) ≡ a
told-on set h p q = sym (p ∙ ap (λ (x : ℕ). contains set (weekday x)) h) ∙ q

-- of k dates in a row, those from the i-th on
abbrev pub dates_from : ℕ → ℕ → ℕ → List ℕ
dates_from first k i = run (first + i) (k - i)

pub dates-whole : (first k : ℕ) → dates_from first k 0 ≡ run first k
dates-whole first k = let a : first + 0 ≡ first = omega arith in let b : k - 0 ≡ k = omega arith in rw (a, b)

run-suc : (d m n : ℕ) → n ≡ suc m → run d n ≡ d ∷ run (d + 1) m
unfolding run
run-suc d m n e = ap (run d) e ∙ ap (λ (x : ℕ). d ∷ run x m) (sym (add-one d))

dates-step : (first k i : ℕ) → i < k → dates_from first k i ≡ (first + i) ∷ dates_from first k (i + 1)
dates-step first k i h =
    run-suc (first + i) (k - (i + 1)) (k - i) (omega arith) ∙ ap (λ (d : ℕ). (first + i) ∷ run d (k - (i + 1))) (omega arith)

dates-none : (first k i : ℕ) → k ≤ i → dates_from first k i ≡ []
unfolding run
dates-none first k i h = let e : k - i ≡ 0 = omega arith in ap (run (first + i)) e

module _ {B : Type 0} (on : ℕ → Bool) (f : ℕ → List B) (first k i : ℕ) (done whole : List B) (same : done ++ shown on f (dates_from first k i) ≡ whole) where
  -- a date that is on, with what it shows behind the blocks so far
  pub date-on : i < k → on (first + i) ≡ true → (l : List B) → l ≡ done ++ f (first + i) → l ++ shown on f (dates_from first k (i + 1)) ≡ whole
  unfolding joined filter
  date-on h t l e =
      let q : shown on f ((first + i) ∷ dates_from first k (i + 1)) ≡ f (first + i) ++ shown on f (dates_from first k (i + 1)) = rw t in
      ap (λ (x : List B). x ++ shown on f (dates_from first k (i + 1))) e
      ∙ append_assoc done (f (first + i)) (shown on f (dates_from first k (i + 1)))
      ∙ ap (λ (x : List B). done ++ x) (sym (ap (shown on f) (dates-step first k i h) ∙ q)) ∙ same

  pub date-off : i < k → on (first + i) ≡ false → done ++ shown on f (dates_from first k (i + 1)) ≡ whole
  unfolding joined filter
  date-off h t =
      let q : shown on f ((first + i) ∷ dates_from first k (i + 1)) ≡ shown on f (dates_from first k (i + 1)) = rw t in
      ap (λ (x : List B). done ++ x) (sym (ap (shown on f) (dates-step first k i h) ∙ q)) ∙ same

  pub dates-done : k ≤ i → done ≡ whole
  unfolding joined filter
  dates-done h = sym (append-nil done) ∙ ap (λ (x : List B). done ++ x) (sym (ap (shown on f) (dates-none first k i h))) ∙ same

-- ---- the rules of a counted array

module _ {A B : Type 0} (g : A → List B) where
  -- what the first n of the array give from i on
  abbrev pub rest_of : ℕ → List A → ℕ → List B
  rest_of n l i = joined (map g (drop i (take n l)))

  pub rest_more : (n : ℕ) (l : List A) (i : ℕ) (x : A) → i < n → n ≤ length l → rest_of n l i ≡ g (get_or l i x) ++ rest_of n l (i + 1)
  unfolding joined
  rest_more n l i x h k =
      let e : length (take n l) ≡ n = length-take-le n l k in
      let p : i < length (take n l) = omega arith in
      ap (λ (t : List A). joined (map g t)) (drop-cons (take n l) i x p) ∙ rw (add-one, get_or-take n l i x)

  pub rest_end : (n : ℕ) (l : List A) → n ≤ length l → rest_of n l n ≡ []
  unfolding joined
  rest_end n l k =
      let h : length (take n l) ≤ n = omega (arith, length-take-le n l k) in
      ap (λ (t : List A). joined (map g t)) (drop_of_length-le (take n l) h)

pub maps : {A B C : Type 0} (f : B → C) (g : A → B) (l : List A) → map (λ (a : A). f (g a)) l ≡ map f (map g l)
maps f g [] = refl
maps f g (a ∷ l) = ap (λ t. f (g a) ∷ t) (maps f g l)

-- what a list of records has in the window [lo, hi)
pub rules-are : (lo hi : ℕ) {A : Type 0} (h : A → Rule) (l : List A) → joined (map (λ (a : A). blocks_of lo hi (h a)) l) ≡ blocks_of_all lo hi (map h l)
rules-are lo hi h l = ap joined (maps (blocks_of lo hi) h l)

-- ---- rules and holiday records of the code

-- whichever dates a rule is on, it shows the same of one
piece-any : (r : Rule) (lo hi d : ℕ) → piece_of (during r.zone r.from r.to) lo hi d ≡ piece_of r lo hi d
unfolding piece_of start_of end_of
piece-any r lo hi d = refl

-- a zone's file is a part of the pack
pub zone-moved : (f g : List ℕ) (z : Zone') → f ≡ g → ZoneOk g z → ZoneOk f z
zone-moved f g z e o = rw e o

-- the first date of a window is one of the calendar's
first_small : (z : Zone) → Sound z → (t : ℕ) → t ≤ last_instant → first_date z t < calendar_days
first_small z s t h =
    let a = first-upto z s t in let b = day-is z s t in let c = offset-high z s t in
    omega arith

pub days-are : (f g : List ℕ) (z : Zone') (lo hi : Instant) (d : LocalDates) → f ≡ g → ZoneOk g z → Window 14 lo hi
    → d.first ≡ signed_day (first_date (zone_is f z) (nanos lo)) → d.last ≡ signed_day (last_date (zone_is f z) (nanos hi))
    → KeepsOffset (zone_is f z) (nanos lo) (nanos hi) d.offset → IsLocalDates (zone_is g z) lo hi d
days-are f g z lo hi d e o w p q v =
    let s : Sound (zone_is g z) = fits-sound (zone_is g z) o.fits in
    let p' : d.first ≡ signed_day (first_date (zone_is g z) (nanos lo)) = p ∙ ap (λ (f : List ℕ). signed_day (first_date (zone_is f z) (nanos lo))) e in
    let q' : d.last ≡ signed_day (last_date (zone_is g z) (nanos hi)) = q ∙ ap (λ (f : List ℕ). signed_day (last_date (zone_is f z) (nanos hi))) e in
    let p'' = day-given p' in let q'' = day-given q' in
    let a = w.low.low in let b = w.high.high in let c = w.high.ns in
    let l = first-from (zone_is g z) s (nanos lo) (omega arith) in
    let u = last-upto (zone_is g z) s (nanos hi) (omega arith) in
    let k = dates-most (zone_is g z) s (nanos lo) (nanos hi) 14 w.short in
    record {
      first-is = p'';
      last-is = q'';
      low = omega arith;
      high = omega arith;
      few = omega arith;
      first-number = is_number p' (omega (arith, first_small (zone_is g z) s (nanos lo) (omega (arith, w.low.high, w.low.ns))));
      first_below = omega (arith, first_small (zone_is g z) s (nanos lo) (omega (arith, w.low.high, w.low.ns)));
      last-number = is_number q' (omega arith);
      kept = rw e at v;
    }

-- by one offset around the window
by-offset : (z : Zone) (lo hi t : Instant) (o : ℕ) → KeepsOffset z (nanos lo) (nanos hi) o → 0 < o → nanos lo ≤ nanos t → nanos t ≤ nanos hi → t.ns < 1000000000
    → day_by o t ≡ local_day z (nanos t)
unfolding offset_nanos
by-offset z lo hi t o k h p q n =
    let e = k.same h (nanos t) (omega arith) (omega arith) in
    let s : (t.sec * 1000000000 + t.ns) / second ≡ t.sec = omega arith in
    let g : offset_at z t.sec * second ≡ o * second = rw s at e in
    local-is z t.sec t.ns o n (omega arith)

-- a zone's offset and the seconds that a window has with four days on either side
pub kept-room : (f : List ℕ) (z : Zone') (lo hi : Instant) (o : ℕ) → ZoneOk f z → Window 14 lo hi → KeepsOffset (zone_is f z) (nanos lo) (nanos hi) o → 0 < o
    → OffsetHolds o lo hi
kept-room f z lo hi o s w k h =
    let a = w.low.ns in let b = w.high.ns in let c = w.order in let l = k.low h in let u = k.high h in
    (kept_small f z lo hi o s k c h, omega arith, omega arith, omega arith)

pub days-kept : (f g : List ℕ) (z : Zone') (lo hi : Instant) (o : ℕ) (d : LocalDates) → f ≡ g → ZoneOk g z → Window 14 lo hi → KeepsOffset (zone_is f z) (nanos lo) (nanos hi) o → 0 < o
    → d.first ≡ signed_day (day_by o lo - 2) → d.last ≡ signed_day (day_by o hi + 1) → d.offset ≡ o → IsLocalDates (zone_is g z) lo hi d
days-kept f g z lo hi o d e s w k h p q r =
    let m = kept-room f z lo hi o (zone-moved f g z e s) w k h in
    let b = m.1 in let c = m.2 in let x = m.3 in
    let i = by-offset (zone_is f z) lo hi lo o k h (omega arith) w.order w.low.ns in
    let j = by-offset (zone_is f z) lo hi hi o k h w.order (omega arith) w.high.ns in
    let u : 146465 ≤ day_by o lo = omega arith in
    let v : day_by o hi < 7450946 = omega arith in
    days-are f g z lo hi d e s w
    (p ∙ ap signed_day (first_back (zone_is f z) (nanos lo) (day_by o lo) i u))
    (q ∙ ap signed_day (last_on (zone_is f z) (nanos hi) (day_by o hi) j v))
    (rw r k)

pub local-date-in : (z : Zone) (lo hi : Instant) (days : LocalDates) (d : ℕ) → IsLocalDates z lo hi days → from_day days ≤ d → d ≤ upto_day days → IsDay d
local-date-in z lo hi days d q a b = let l = q.low in let u = q.high in record { low = omega arith; high = omega arith }

-- the same, of a zone whose file is a part of the pack
pub kept-moved : (f g : List ℕ) (z : Zone') (lo hi : Instant) (days : LocalDates) → f ≡ g → IsLocalDates (zone_is g z) lo hi days → KeepsOffset (zone_is f z) (nanos lo) (nanos hi) days.offset
kept-moved f g z lo hi days e q = rw e q.kept

pub in_moved : (f g : List ℕ) (z : Zone') (lo hi : Instant) (days : LocalDates) (d : ℕ) → f ≡ g → Window 14 lo hi → IsLocalDates (zone_is g z) lo hi days → from_day days ≤ d → d ≤ upto_day days
    → IsIn (zone_is f z) lo hi d
in_moved f g z lo hi days d e w q a b =
    let p = q.first-is in let r = q.last-is in
    rw e (record { order = w.order; first = omega arith; last = omega arith })

pub rule-piece : (p f : List ℕ) (r : Rule') (lo hi d : ℕ) (x : Item) → f ≡ file_at p r.at r.len
    → held x ≡ piece_of (during (zone_is f r.zone) (time_in r.from) (time_in r.to)) lo hi d → held x ≡ piece_of (rule_is p r) lo hi d
rule-piece p f r lo hi d x e h =
    h ∙ ap (λ (f : List ℕ). piece_of (during (zone_is f r.zone) (time_in r.from) (time_in r.to)) lo hi d) e ∙ piece-any (rule_is p r) lo hi d

pub closed-piece : (f g : List ℕ) (z : Zone') (lo hi d : ℕ) (x : Item) → f ≡ g
    → held x ≡ piece_of (during (zone_is f z) 0 0) lo hi d → held x ≡ piece_of (during (zone_is g z) 0 0) lo hi d
closed-piece f g z lo hi d x e h = h ∙ ap (λ (f : List ℕ). piece_of (during (zone_is f z) 0 0) lo hi d) e

-- a date is among the distinct ones if it is among them
pub among-distinct : (l : List ℕ) (n : ℕ) → among (distinct l) n ≡ among l n
unfolding any distinct
among-distinct [] n = refl
among-distinct (m ∷ l) n =
    let ih : among (distinct l) n ≡ among l n = among-distinct l n in
    by-test (among l m)
    (λ t. rw t (ih ∙ by-test (eqb n m)
    (λ u. let e : n ≡ m = eqb-true n m u in rw u (ap (among l) e ∙ t))
    (λ u. rw u)))
    (λ t. rw t (by-test (eqb n m) (λ u. rw u) (λ u. rw u ih)))
