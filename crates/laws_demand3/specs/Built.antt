-- What a book that builds has: its rules' zones are sound and its times of day lie below 24 hours, its zones are those that its records use,
-- and its search limit is at least 366 days.
use Rattle.std.specs.Prelude.{◌≡◌, refl, Bool, true, false, ◌&&◌, ℕ, ◌+◌, ◌*◌, ◌≤◌, ◌<◌, leb, ltb, eqb, length, get_or, drop}
use Rattle.std.proofs.Common.{subst, ltb-true}
use Rattle.std.proofs.Math.Option.{Option, none, some}
use mathlib.Core.List.{List, [], ◌∷◌, map, append-nil}
use native.Mathlib.Omega.{arith}
use Rattle.model.specs.Basic.{given, each, joined}
use Rattle.model.specs.Bytes.{be}
use Rattle.model.specs.Calendar.{is_set}
use Rattle.model.specs.Instant.{second, day, day_seconds}
use Rattle.model.specs.Directory.{Part, parts_of}
use Rattle.model.specs.Pack.{Named, pack_of, find}
use Rattle.model.specs.Tzif.{Zone, zone_of}
use Rattle.model.specs.Answer.{Answer, gives, refuses, ◌>>=◌, or_refuse}
use Rattle.model.specs.Book.{Hours, Body, default, work, pause, holidays, Entry, time_of, hours_of, dates_of, body_of, entry_of, entries_of, within_limits, last_default}
use Rattle.model.specs.Working.{Rule, Schedule, holiday_rule}
use Rattle.model.specs.Build.{lookup, default_zone, rule_zone, no_rules, with_rule, zone_used, rules_of, works_in_2001, build}
use Rattle.laws_base.specs.Test.{by-test, and_both, never}
use Rattle.laws_base.specs.Made.{Made, nothing, value, made, made-is, next, tested, anything}
use Rattle.laws_zone.specs.Sound.{Sound}
use Rattle.laws_zone.specs.Zones.{zone-sound, utc-sound}
use Rattle.laws_demand3.specs.Windows.{RuleOk, OfRules, NearRule}
use Rattle.laws_demand3.specs.Zones.{if_given, used_by, used_in, zones_of, WithinDay}
use Rattle.laws_base.specs.Every.{Every, every-both, every_map, every-apart}

-- ---- what is answered, if anything, has P

data Done {A : Type 0} (P : A → Type 0) : Answer A → Type 0 where
  not_done : {n p : ℕ} → Done P (refuses n p)
  done : {a : A} → P a → Done P (gives a)

done-by : {A : Type 0} {P : A → Type 0} (o : Answer A) → ((a : A) → o ≡ gives a → P a) → Done P o
done-by (gives a) f = done (f a refl)
done-by (refuses n p) f = not_done

done-is : {A : Type 0} {P : A → Type 0} (o : Answer A) (a : A) → Done P o → o ≡ gives a → P a
done-is (refuses n p) a h e = never (cc)
done-is {P = P} (gives b) a (done h) e = let p : b ≡ a = cc in subst P p h

goes : {A B : Type 0} {P : A → Type 0} {Q : B → Type 0} {f : A → Answer B} (o : Answer A) → Done P o → ((a : A) → P a → Done Q (f a)) → Done Q (o >>= f)
goes (refuses n p) h k = not_done
goes (gives a) (done h) k = k a h

or-done : {A : Type 0} {P : A → Type 0} (n p : ℕ) (o : Option A) → Made P o → Done P (or_refuse n p o)
or-done n p none h = not_done
or-done n p (some a) (value h) = done h

-- ---- times of day

abbrev pub HoursOk : Hours → Type 0
HoursOk h = (h.from < day) × (h.to < day)

abbrev pub BodyOk : Body → Type 0
BodyOk default = Unit {0}
BodyOk (work h) = HoursOk h
BodyOk (pause h) = HoursOk h
BodyOk (holidays l) = Unit {0}

abbrev pub EntryOk : Entry → Type 0
EntryOk e = BodyOk e.body

given_made : {A : Type 0} {P : A → Type 0} (c : Bool) (a : A) → (c ≡ true → P a) → Made P (given c a)
given_made true a f = value (f refl)
given_made false a f = nothing

time-made : (l : List ℕ) → Made (λ (t : ℕ). t < day) (time_of l)
unfolding time_of
time-made l = given_made (ltb (be 4 l) day_seconds && ltb (be 4 (drop 4 l)) second) (be 4 l * second + be 4 (drop 4 l))
    (λ e. below (be 4 l) (be 4 (drop 4 l)) (and_both (ltb (be 4 l) day_seconds) (ltb (be 4 (drop 4 l)) second) e))
  where
    below : (s n : ℕ) → (ltb s day_seconds ≡ true) × (ltb n second ≡ true) → s * second + n < day
    below s n h = let a = ltb-true s day_seconds h.0 in let b = ltb-true n second h.1 in omega arith

hours-made : (l : List ℕ) → Made HoursOk (hours_of l)
unfolding hours_of
hours-made [] = nothing
hours-made (d ∷ l) =
    tested (is_set d && eqb (length l) 16) (λ _ _.
    next (time_of l) (time-made l) (λ a p.
    next (time_of (drop 8 l)) (time-made (drop 8 l)) (λ b q. value (p, q))))

body-made : (kind : ℕ) (l : List ℕ) → Made BodyOk (body_of kind l)
unfolding body_of
body-made kind l =
    by-test (eqb kind 0) (λ a. rw a (given_made (eqb (length l) 0) default (λ _. tt)))
    (λ a. by-test (eqb kind 1) (λ b. rw (a, b) (next (hours_of l) (hours-made l) (λ h p. value p)))
    (λ b. by-test (eqb kind 2) (λ c. rw (a, b, c) (next (hours_of l) (hours-made l) (λ h p. value p)))
    (λ c. by-test (eqb kind 3) (λ d. rw (a, b, c, d) (next (dates_of l) (anything (dates_of l)) (λ h p. value tt)))
    (λ d. rw (a, b, c, d) nothing))))

entry-made : (p : Part) → Made EntryOk (entry_of p)
unfolding entry_of
entry-made p =
    let n = get_or p.bytes 1 0 in
    tested (leb n 64 && leb (2 + n) (length p.bytes)) (λ _ _.
    next (body_of (get_or p.bytes 0 0) (drop (2 + n) p.bytes)) (body-made (get_or p.bytes 0 0) (drop (2 + n) p.bytes)) (λ b h. value h))

each-made : {A B : Type 0} {P : B → Type 0} (f : A → Option B) → ((a : A) → Made P (f a)) → (l : List A) → Made (Every P) (each f l)
unfolding each
each-made f k [] = value tt
each-made f k (a ∷ l) = next (f a) (k a) (λ b h. next (each f l) (each-made f k l) (λ r i. value (h, i)))

entries-made : (book : List ℕ) → Made (Every EntryOk) (entries_of book)
unfolding entries_of
entries-made book = next (parts_of book) (anything (parts_of book)) (λ l _. each-made entry_of entry-made l)

pub entries_fit : (book : List ℕ) (l : List Entry) → entries_of book ≡ some l → Every EntryOk l
entries_fit book l e = made-is (entries_of book) l (entries-made book) e

-- ---- zones

lookup-sound : (files : List Named) (e : Entry) → Done Sound (lookup files e)
unfolding lookup
lookup-sound files e =
    goes (or_refuse 4 e.place (find e.name files)) (or-done 4 e.place (find e.name files) (anything (find e.name files)))
    (λ f _. or-done 5 e.place (zone_of f) (made (zone_of f) (zone-sound f)))

default-sound : (files : List Named) (o : Option Entry) → Done Sound (default_zone files o)
default-sound files none = done utc-sound
default-sound files (some e) = lookup-sound files e

rule-sound : (files : List Named) (z : Zone) → Sound z → (e : Entry) → Done Sound (rule_zone files z e)
rule-sound files z s e = by-test (eqb (length e.name) 0) (λ p. rw p (done s)) (λ p. rw p (lookup-sound files e))

-- the default zone and the zone of a record are sound where there are any
pub default-is : (files : List Named) (o : Option Entry) (z : Zone) → default_zone files o ≡ gives z → Sound z
default-is files o z e = done-is (default_zone files o) z (default-sound files o) e

pub zone-is : (files : List Named) (z : Zone) → Sound z → (e : Entry) (y : Zone) → rule_zone files z e ≡ gives y → Sound y
zone-is files z s e y p = done-is (rule_zone files z e) y (rule-sound files z s e) p

given-done : {A : Type 0} {P : A → Type 0} (o : Answer A) → Done P o → Every P (if_given o)
given-done (gives a) (done h) = (h, tt)
given-done (refuses n p) h = tt

done-given : {A : Type 0} {P : A → Type 0} (o : Answer A) → Every P (if_given o) → Done P o
done-given (gives a) h = done h.0
done-given (refuses n p) h = not_done

used_sound : (files : List Named) (z : Zone) → Sound z → (l : List Entry) → Every Sound (used_in files z l)
unfolding used_in
used_sound files z s [] = tt
used_sound files z s (e ∷ l) = every-both Sound (used_by files z e e.body) (used_in files z l) (used e.body) (used_sound files z s l)
  where
    used : (b : Body) → Every Sound (used_by files z e b)
    used default = tt
    used (work h) = given-done (rule_zone files z e) (rule-sound files z s e)
    used (pause h) = given-done (rule_zone files z e) (rule-sound files z s e)
    used (holidays d) = given-done (rule_zone files z e) (rule-sound files z s e)

-- ---- rules

module _ (P : Zone → Type 0) where
  -- a rule whose zone has P and whose times lie below 24 hours
  record Has (r : Rule) : Type 0 where
    zone : P r.zone
    from-day : r.from < day
    to-day : r.to < day

  -- what the records make, one after another
  record Rules (s : Schedule) : Type 0 where
    work : Every Has s.work
    breaks : Every Has s.breaks
    holidays : Every Has (map holiday_rule s.holidays)
    limit : 366 * day ≤ s.limit

  -- the zone that a record uses has P
  abbrev Uses : Body → Zone → Type 0
  Uses default y = Unit {0}
  Uses (work h) y = P y
  Uses (pause h) y = P y
  Uses (holidays d) y = P y

  with-rule : (b : Body) (y : Zone) (s : Schedule) → BodyOk b → Uses b y → Rules s → Rules (with_rule b y s)
  with-rule default y s h u r = r
  with-rule (work h) y s o u r = record { work = (record { zone = u; from-day = o.0; to-day = o.1 }, r.work); breaks = r.breaks; holidays = r.holidays; limit = r.limit }
  with-rule (pause h) y s o u r = record { work = r.work; breaks = (record { zone = u; from-day = o.0; to-day = o.1 }, r.breaks); holidays = r.holidays; limit = r.limit }
  with-rule (holidays d) y s o u r = record {
    work = r.work;
    breaks = r.breaks;
    holidays = (record { zone = u; from-day = omega arith; to-day = omega arith }, r.holidays);
    limit = (let a = r.limit in omega arith);
  }

  module _ (files : List Named) (z : Zone) where
    zone-used : (e : Entry) (b : Body) → Every P (used_by files z e b) → Done (Uses b) (zone_used files z e b)
    zone-used e default h = done tt
    zone-used e (work a) h = done-given (rule_zone files z e) h
    zone-used e (pause a) h = done-given (rule_zone files z e) h
    zone-used e (holidays a) h = done-given (rule_zone files z e) h

    rules-done : (l : List Entry) → Every EntryOk l → Every P (used_in files z l) → Done Rules (rules_of files z l)
    unfolding rules_of used_in
    rules-done [] o h = done {a = no_rules} (record { work = tt; breaks = tt; holidays = tt; limit = omega arith })
    rules-done (e ∷ l) o h =
        goes (zone_used files z e e.body) (zone-used e e.body (every-apart P (used_by files z e e.body) (used_in files z l) h).0) (λ y u.
        goes (rules_of files z l) (rules-done l o.1 (every-apart P (used_by files z e e.body) (used_in files z l) h).1) (λ s r.
        done (with-rule e.body y s o.0 u r)))

  build-done : (book pack : List ℕ) → ((l : List Entry) (files : List Named) (z : Zone) → entries_of book ≡ some l → pack_of pack ≡ some files → default_zone files (last_default none l) ≡ gives z → Every P (used_in files z l))
      → Done Rules (build book pack)
  unfolding build
  build-done book pack f =
      goes (or_refuse 1 0 (entries_of book)) (or-done 1 0 (entries_of book) (made (entries_of book) (λ l e. e))) (λ l e.
      goes (or_refuse 2 0 (given (within_limits l) l)) (or-done 2 0 (given (within_limits l) l) (anything (given (within_limits l) l))) (λ _ _.
      goes (or_refuse 3 0 (pack_of pack)) (or-done 3 0 (pack_of pack) (made (pack_of pack) (λ files g. g))) (λ files g.
      goes (default_zone files (last_default none l)) (done-by (default_zone files (last_default none l)) (λ z d. d)) (λ z d.
      goes (rules_of files z l) (rules-done files z l (entries_fit book l e) (f l files z e g d)) (λ s r.
      or-done 6 0 (given (works_in_2001 s) s) (given_made (works_in_2001 s) s (λ _. r)))))))

-- ---- books that build

-- the rules are sound, and a search crosses at least 366 days
pub record Built (s : Schedule) : Type 0 where
  pub ok : OfRules RuleOk s
  pub limit : 366 * day ≤ s.limit

of-rules : (P : Zone → Type 0) (Q : Rule → Type 0) → ((r : Rule) → Has P r → Q r) → (s : Schedule) → Rules P s → OfRules Q s
of-rules P Q f s r = (every_map (Has P) Q f s.work r.work, every-both Q s.breaks (map holiday_rule s.holidays) (every_map (Has P) Q f s.breaks r.breaks) (every_map (Has P) Q f (map holiday_rule s.holidays) r.holidays))

pub built : (book pack : List ℕ) (s : Schedule) → build book pack ≡ gives s → Built s
built book pack s e =
    let r = done-is (build book pack) s (build-done Sound book pack (λ l files z _ _ d. used_sound files z (default-is files (last_default none l) z d) l)) e in
    record { ok = of-rules Sound RuleOk (λ r h. record { sound = h.zone; from-day = h.from-day; to-day = h.to-day }) s r; limit = r.limit }

-- what each zone of the book has, the zone of each rule has
zones-are : (book pack : List ℕ) (l : List Entry) (files : List Named) (z : Zone) → entries_of book ≡ some l → pack_of pack ≡ some files → default_zone files (last_default none l) ≡ gives z → zones_of book pack ≡ used_in files z l
unfolding zones_of joined
zones-are book pack l files z e g d = rw (e, g, d, append-nil)

pub rules-have : (P : Zone → Type 0) (book pack : List ℕ) (s : Schedule) → build book pack ≡ gives s → Every P (zones_of book pack) → OfRules (λ (r : Rule). P r.zone) s
rules-have P book pack s e h =
    of-rules P (λ (r : Rule). P r.zone) (λ r k. k.zone) s
    (done-is (build book pack) s (build-done P book pack (λ l files z a b d. rw (zones-are book pack l files z a b d) at h)) e)

pub near-rules : (book pack : List ℕ) (s : Schedule) → build book pack ≡ gives s → Every WithinDay (zones_of book pack) → OfRules NearRule s
near-rules = rules-have WithinDay
