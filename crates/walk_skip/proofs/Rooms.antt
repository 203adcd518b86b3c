-- The room of several tests: the least of theirs. One turn of a loop over an array, and how the parts make the test of a run of borders. Assumes
-- nothing.
use Rattle.std.specs.Prelude.{if◌then◌else◌}
use mathlib.Core.Path.{◌≡◌, refl, sym, ◌∙◌, ap}
use mathlib.Core.Bool.{Bool, true, false, ◌&&◌}
use mathlib.Core.List.{List, [], ◌∷◌, ◌++◌, map}
use Prim.Native.Nat.{ℕ, ◌+◌, ◌*◌, ◌-◌, ◌/◌, ◌≤◌, ◌<◌, min}
use native.Mathlib.Omega.{arith}
use lib.Dec.{leb}
use lib.ListN.{length, drop, get_or}
use lib.Seq.{take-length}
use borrow.Author.Tests.{le-leb, lt-leb, leb-true}
use Rattle.model.specs.Basic.{all}
use Rattle.model.specs.Instant.{second, day, week, first_instant, last_instant, week_seconds}
use Rattle.model.specs.Working.{Rule, Schedule}
use Rattle.model.specs.Zone.{steady}
use Rattle.model.specs.Skip.{rule_steady, none_near, repeats}
use Rattle.laws_base.specs.Test.{by-test, and_both}
use Rattle.laws_demand3.specs.Windows.{RuleOk, OfRules}
use Rattle.laws_skip.specs.Runs.{repeats_to, repeats-one, run-each, run-back}
use Rattle.laws_base.specs.Front.{front, rest-cons, rest-none}
use Rattle.rule.specs.Rules.{file_at, rule_is}
use Rattle.rule.specs.declared.Rule.{Rule as Item}
use Rattle.rule.specs.declared.HolidayDates.{HolidayDates}
use Rattle.instant.specs.Instant.{nanos}
use Rattle.instant.specs.declared.Instant.{Instant}
use Rattle.zone.specs.Zones.{zone_is, ZoneOk}
use Rattle.zone.specs.declared.Zone.{Zone}
use Rattle.zone_footer.specs.declared.Footer.TheVariants as F
use Rattle.zone_steady.specs.Steady.{SteadyRoom, low, high}
use Rattle.walk_skip.specs.Repeating.{steady_within, none_within, range_by, repeats_by, beyond, Repeating, earliest_border, latest_border}

-- ---- a loop over the first n of an array, one room for each

module _ {A B : Type 0} (f : A → B) (T : ℕ → B → Bool) (n : ℕ) (l : List A) where
  -- below the room, the test of all is that of those from i on
  pub record Open (i room : ℕ) : Type 0 where
    pub some : 0 < room
    pub rest : (e : ℕ) → e < room → all (T e) (drop i (front f n l)) ≡ all (T e) (front f n l)

  pub open-starts : (room : ℕ) → 0 < room → Open 0 room
  open-starts room h = record { some = h; rest = λ e k. refl }

  each_more : (e i : ℕ) (d : A) → i < n → n ≤ length l → all (T e) (drop i (front f n l)) ≡ (if T e (f (get_or l i d)) then all (T e) (drop (i + 1) (front f n l)) else false)
  unfolding all
  each_more e i d h k = ap (all (T e)) (rest-cons f n l i d h k)

  module _ {i room : ℕ} (o : Open i room) (d : A) (h : i < n) (k : n ≤ length l) {m : ℕ} (r : SteadyRoom (λ e. T e (f (get_or l i d))) m) where
    pub open_no : m ≡ 0 → SteadyRoom (λ e. all (T e) (front f n l)) 0
    open_no q = record {
      none = λ _. sym (o.rest 0 o.some) ∙ each_more 0 i d h k ∙ fails (r.none q);
      each = λ e p. absurd (omega arith);
    }
      where
        fails : T 0 (f (get_or l i d)) ≡ false → (if T 0 (f (get_or l i d)) then all (T 0) (drop (i + 1) (front f n l)) else false) ≡ false
        fails u = rw u

    pub open_more : (m ≡ 0 → ⊥) → {room' : ℕ} → room' ≡ min room m → Open (i + 1) room'
    open_more q {room'} e = record {
      some = omega (arith, o.some, q);
      rest = λ x p. passes x (r.each x (omega arith)) (sym (each_more x i d h k) ∙ o.rest x (omega arith));
    }
      where
        passes : (x : ℕ) → T x (f (get_or l i d)) ≡ true → (if T x (f (get_or l i d)) then all (T x) (drop (i + 1) (front f n l)) else false) ≡ all (T x) (front f n l)
            → all (T x) (drop (i + 1) (front f n l)) ≡ all (T x) (front f n l)
        passes x u v = rw u at v

  pub open-ends : {i room : ℕ} → Open i room → i ≤ n → n ≤ i → n ≤ length l → SteadyRoom (λ e. all (T e) (front f n l)) room
  unfolding all
  open-ends {i} {room} o h m k =
      let e : i ≡ n = omega arith in
      let z : drop i (front f n l) ≡ [] = rw e (rest-none f n l k) in
      record { none = λ q. absurd (omega (arith, o.some)); each = λ x p. sym (o.rest x p) ∙ ap (all (T x)) z }

-- the same over a whole list
module _ {A B : Type 0} (f : A → B) (T : ℕ → B → Bool) (l : List A) where
  front_all : front f (length l) l ≡ map f l
  front_all = ap (map f) (take-length l)

  pub all_no : {i room : ℕ} → Open f T (length l) l i room → (d : A) → i < length l → {m : ℕ} → SteadyRoom (λ e. T e (f (get_or l i d))) m → m ≡ 0 → SteadyRoom (λ e. all (T e) (map f l)) 0
  all_no o d h r q = let z : SteadyRoom (λ e. all (T e) (front f (length l) l)) 0 = open_no f T (length l) l o d h (omega arith) r q in rw front_all at z

  pub all_end : {i room : ℕ} → Open f T (length l) l i room → i ≤ length l → length l ≤ i → SteadyRoom (λ e. all (T e) (map f l)) room
  all_end {i} {room} o h k = let z : SteadyRoom (λ e. all (T e) (front f (length l) l)) room = open-ends f T (length l) l o h k (omega arith) in rw front_all at z

-- ---- a rule

low_second : (back : Bool) (a s n e : ℕ) → a ≡ s * second + n → n < second → low back a (e * second) / second ≡ low back s e
low_second true a s n e p h = omega arith
low_second false a s n e p h = omega arith

high-second : (back : Bool) (a s n e : ℕ) → a ≡ s * second + n → n < second → high back a (e * second) / second ≡ high back s e
high-second true a s n e p h = omega arith
high-second false a s n e p h = omega arith

pub room_of : {t t' : ℕ → Bool} {m : ℕ} → ((e : ℕ) → t e ≡ t' e) → SteadyRoom t m → SteadyRoom t' m
room_of q r = record { none = λ z. sym (q 0) ∙ r.none z; each = λ e h. sym (q e) ∙ r.each e h }

stays-is : (back : Bool) (a b sa na sb nb : ℕ) (r : Rule) → a ≡ sa * second + na → na < second → b ≡ sb * second + nb → nb < second → (e : ℕ)
    → steady r.zone (low back sa e) (high back sb e) ≡ steady_within back a b e r
unfolding steady_within
stays-is back a b sa na sb nb r ea ha eb hb e = rw (low_second back a sa na e ea ha, high-second back b sb nb e eb hb)

pub zone-at : {f g : List ℕ} {z : Zone} → f ≡ g → ZoneOk g z → ZoneOk f z
zone-at {f} {g} {z} e k = rw e k

-- what the code reads past the end of an array of rules or of holiday records
abbrev pub no_zone : Zone
no_zone = record { table = record { count = 0; times = 0; initial = 0; line = 0; len = 0 }; footer = F.Empty }

abbrev pub no_rule : Item
no_rule = record { at = 0; len = 0; zone = no_zone; days = 0; from = record { seconds = 0; nanos = 0 }; to = record { seconds = 0; nanos = 0 } }

abbrev pub no_closed : HolidayDates
no_closed = record { at = 0; len = 0; zone = no_zone; dates = 0; count = 0 }

pub rule-room : (back : Bool) (p : List ℕ) (r : Item) (a b : Instant) {f : List ℕ} {m : ℕ} → f ≡ file_at p r.at r.len → a.ns < second → b.ns < second
    → SteadyRoom (λ e. steady (zone_is f r.zone) (low back a.sec e) (high back b.sec e)) m → SteadyRoom (λ e. steady_within back (nanos a) (nanos b) e (rule_is p r)) m
rule-room back p r a b e h k s = room_of (λ x. stays-is back (nanos a) (nanos b) a.sec a.ns b.sec b.ns (rule_is p r) refl h refl k x) (rw e at s)

-- ---- the range

pub range-early : (back : Bool) (t : ℕ) → t < first_instant + 11 * day → SteadyRoom (range_by back t) 0
unfolding range_by
range-early true t h = let q : t - 0 * second ≡ t = omega arith in record { none = λ _. rw (q, lt-leb (first_instant + 11 * day) t h); each = λ e p. absurd (omega arith) }
range-early false t h = record { none = λ _. rw (lt-leb (first_instant + 11 * day) t h); each = λ e p. absurd (omega arith) }

pub range-late : (back : Bool) (t : ℕ) → first_instant + 11 * day ≤ t → last_instant < t + 11 * day → SteadyRoom (range_by back t) 0
unfolding range_by
range-late true t i h = let q : t - 0 * second ≡ t = omega arith in record { none = λ _. rw (q, le-leb (first_instant + 11 * day) t i, lt-leb (t + 11 * day) last_instant h); each = λ e p. absurd (omega arith) }
range-late false t i h =
    let q : t + 0 * second ≡ t = omega arith in
    record { none = λ _. rw (q, le-leb (first_instant + 11 * day) t i, lt-leb (t + 11 * day) last_instant h); each = λ e p. absurd (omega arith) }

pub range_back : {back : Bool} (t s n : ℕ) → back ≡ true → t ≡ s * second + n → earliest_border ≤ s → t + 11 * day ≤ last_instant → SteadyRoom (range_by back t) (s - earliest_border + 1)
unfolding range_by
range_back t s n b p h i = rw b (record { none = λ q. absurd (omega arith); each = λ e q. rw (le-leb (first_instant + 11 * day) (t - e * second) (omega arith), le-leb (t + 11 * day) last_instant i) })

pub range-on : {back : Bool} (t s n : ℕ) → back ≡ false → t ≡ s * second + n → n < second → first_instant + 11 * day ≤ t → s ≤ latest_border → SteadyRoom (range_by back t) (latest_border - s + 1)
unfolding range_by
range-on t s n b p k h i = rw b (record { none = λ q. absurd (omega arith); each = λ e q. rw (le-leb (first_instant + 11 * day) t h, le-leb (t + e * second + 11 * day) last_instant (omega arith)) })

-- ---- all of it

all_both : {A : Type 0} (t : A → Bool) (l k : List A) → all t (l ++ k) ≡ (all t l && all t k)
unfolding all
all_both t [] k = refl
all_both t (a ∷ l) k = by-test (t a) (λ e. rw e (all_both t l k)) (λ e. rw e)

least-none : (m w p c x y z : ℕ) → 0 < m → 0 < w → 0 < p → x ≡ min m w → y ≡ min p c → z ≡ min x y → z ≡ 0 → c ≡ 0
least-none m w p c x y z i j k ex ey ez e = let some : 0 < x = first ex in last (second' some ez e)
  where
    first : x ≡ min m w → 0 < x
    first h = omega arith

    second' : 0 < x → z ≡ min x y → z ≡ 0 → y ≡ 0
    second' h q r = omega arith

    last : y ≡ 0 → c ≡ 0
    last h = omega (arith, ey)

least-below : (m w p c x y z e : ℕ) → x ≡ min m w → y ≡ min p c → z ≡ min x y → e < z → (e < m) × (e < w) × (e < p) × (e < c)
least-below m w p c x y z e ex ey ez h = let l = under ez in let i = left ex l.0 in let j = right ey l.1 in (i.0, i.1, j.0, j.1)
  where
    under : z ≡ min x y → (e < x) × (e < y)
    under q = (omega arith, omega arith)

    left : x ≡ min m w → e < x → (e < m) × (e < w)
    left q k = (omega arith, omega arith)

    right : y ≡ min p c → e < y → (e < p) × (e < c)
    right q k = (omega arith, omega arith)

positive : (m : ℕ) → (m ≡ 0 → ⊥) → 0 < m
positive m h = omega (arith, h)

module _ (back : Bool) (s : Schedule) (t : ℕ) (a b : ℕ) (ea : a ≡ t - 11 * day) (eb : b ≡ t + 11 * day) where
  low_same : (e : ℕ) → low back t (e * second) - 11 * day ≡ low back a (e * second)
  low_same e = go back
    where
      go : (w : Bool) → low w t (e * second) - 11 * day ≡ low w a (e * second)
      go true = omega arith
      go false = omega arith

  high_same : (e : ℕ) → high back t (e * second) + 11 * day ≡ high back b (e * second)
  high_same e = go back
    where
      go : (w : Bool) → high w t (e * second) + 11 * day ≡ high w b (e * second)
      go true = omega arith
      go false = omega arith

  parts : (e : ℕ) → repeats_by back s t e ≡ (range_by back t e && ((all (steady_within back a b e) s.work && all (steady_within back a b e) s.breaks) && all (none_within back a b e) s.holidays))
  unfolding repeats_by repeats_to range_by steady_within none_within
  parts e = rw (← low_same e, ← high_same e, all_both (rule_steady (low back t (e * second) - 11 * day) (high back t (e * second) + 11 * day)) s.work s.breaks)

  module _ {m : ℕ} (r : SteadyRoom (range_by back t) m) where
    pub room-range : m ≡ 0 → SteadyRoom (repeats_by back s t) 0
    room-range q = record { none = λ _. parts 0 ∙ no (r.none q); each = λ e h. absurd (omega arith) }
      where
        no : range_by back t 0 ≡ false → (range_by back t 0 && ((all (steady_within back a b 0) s.work && all (steady_within back a b 0) s.breaks) && all (none_within back a b 0) s.holidays)) ≡ false
        no u = rw u

    module _ (i : m ≡ 0 → ⊥) {w : ℕ} (rw' : SteadyRoom (λ e. all (steady_within back a b e) s.work) w) where
      pub room-work : w ≡ 0 → SteadyRoom (repeats_by back s t) 0
      room-work q = record { none = λ _. parts 0 ∙ no (r.each 0 (omega (arith, i))) (rw'.none q); each = λ e h. absurd (omega arith) }
        where
          no : range_by back t 0 ≡ true → all (steady_within back a b 0) s.work ≡ false
              → (range_by back t 0 && ((all (steady_within back a b 0) s.work && all (steady_within back a b 0) s.breaks) && all (none_within back a b 0) s.holidays)) ≡ false
          no u v = rw (u, v)

      module _ (j : w ≡ 0 → ⊥) {p : ℕ} (rp : SteadyRoom (λ e. all (steady_within back a b e) s.breaks) p) where
        pub room-breaks : p ≡ 0 → SteadyRoom (repeats_by back s t) 0
        room-breaks q = record { none = λ _. parts 0 ∙ no (r.each 0 (omega (arith, i))) (rw'.each 0 (omega (arith, j))) (rp.none q); each = λ e h. absurd (omega arith) }
          where
            no : range_by back t 0 ≡ true → all (steady_within back a b 0) s.work ≡ true → all (steady_within back a b 0) s.breaks ≡ false
                → (range_by back t 0 && ((all (steady_within back a b 0) s.work && all (steady_within back a b 0) s.breaks) && all (none_within back a b 0) s.holidays)) ≡ false
            no u v x = rw (u, v, x)

        -- the least of the four
        pub room-all : (p ≡ 0 → ⊥) → {c : ℕ} → SteadyRoom (λ e. all (none_within back a b e) s.holidays) c → {x y z : ℕ} → x ≡ min m w → y ≡ min p c → z ≡ min x y → SteadyRoom (repeats_by back s t) z
        room-all k {c} rc {x} {y} {z} ex ey ez = record {
          none = λ q. parts 0 ∙ no (r.each 0 (positive m i)) (rw'.each 0 (positive w j)) (rp.each 0 (positive p k))
              (rc.none (least-none m w p c x y z (positive m i) (positive w j) (positive p k) ex ey ez q));
          each = λ e h. let l = least-below m w p c x y z e ex ey ez h in parts e ∙ yes e (r.each e l.0) (rw'.each e l.1) (rp.each e l.2) (rc.each e l.3);
        }
          where
            no : range_by back t 0 ≡ true → all (steady_within back a b 0) s.work ≡ true → all (steady_within back a b 0) s.breaks ≡ true → all (none_within back a b 0) s.holidays ≡ false
                → (range_by back t 0 && ((all (steady_within back a b 0) s.work && all (steady_within back a b 0) s.breaks) && all (none_within back a b 0) s.holidays)) ≡ false
            no u v g f = rw (u, v, g, f)

            yes : (e : ℕ) → range_by back t e ≡ true → all (steady_within back a b e) s.work ≡ true → all (steady_within back a b e) s.breaks ≡ true → all (none_within back a b e) s.holidays ≡ true
                → (range_by back t e && ((all (steady_within back a b e) s.work && all (steady_within back a b e) s.breaks) && all (none_within back a b e) s.holidays)) ≡ true
            yes e u v g f = rw (u, v, g, f)

-- ---- from seconds to borders

module _ (s : Schedule) (ok : OfRules RuleOk s) (t : ℕ) where
  one-border : (back : Bool) → repeats_by back s t 0 ≡ repeats s t
  unfolding repeats_by
  one-border true = let q : t - 0 * second ≡ t = omega arith in rw q (repeats-one s t)
  one-border false = let q : t + 0 * second ≡ t = omega arith in rw q (repeats-one s t)

  -- a run back stays behind the range's start
  back_inside : (u : ℕ) → repeats_to s u t ≡ true → first_instant ≤ u
  unfolding repeats_to
  back_inside u e =
      let k = and_both (leb (first_instant + 11 * day) u && leb (t + 11 * day) last_instant) (all (rule_steady (u - 11 * day) (t + 11 * day)) (s.work ++ s.breaks) && all (none_near (u - 11 * day) (t + 11 * day)) s.holidays) e in
      let r = and_both (leb (first_instant + 11 * day) u) (leb (t + 11 * day) last_instant) k.0 in
      let x = leb-true (first_instant + 11 * day) u r.0 in
      omega arith

  each-border : (back : Bool) (k i : ℕ) → repeats_by back s t (k * week_seconds) ≡ true → i ≤ k → repeats s (beyond back t (i * week)) ≡ true
  unfolding repeats_by
  each-border true k i e h =
      let q : k * week_seconds * second ≡ k * week = omega arith in
      let f : repeats_to s (t - k * week) t ≡ true = rw q at e in
      let g = back_inside (t - k * week) f in
      run-back s ok t k i (omega arith) f h
  each-border false k i e h =
      let q : k * week_seconds * second ≡ k * week = omega arith in
      run-each s ok t k i (rw q at e) h

  pub borders-repeat : (back : Bool) {m : ℕ} → SteadyRoom (repeats_by back s t) m → Repeating back s t ((m + week_seconds - 1) / week_seconds)
  borders-repeat back {m} r = record {
    none = λ q. sym (one-border back) ∙ r.none (omega arith);
    each = λ i h. each-border back ((m + week_seconds - 1) / week_seconds - 1) i (r.each (((m + week_seconds - 1) / week_seconds - 1) * week_seconds) (omega arith)) (omega arith);
  }
