-- The book's records from front to back: one step of the loop, and its ends.
use mathlib.Core.Path.{◌≡◌, refl, sym, ap, ◌∙◌}
use mathlib.Core.Bool.{true, ◌&&◌}
use mathlib.Core.List.{List, [], ◌∷◌, ◌++◌, append-nil, append_assoc}
use Prim.Native.Nat.{ℕ, ◌+◌, ◌*◌, ◌-◌, ◌≤◌, ◌<◌}
use Rattle.std.specs.Prelude.{Ok, Err}
use Rattle.std.specs.Prelude as std
use Rattle.refusal.specs.declared.Refused.{Refused}
use Rattle.refusal.specs.Refused.{number_of}
use native.Mathlib.Omega.{arith}
use native.Mathlib.Numerals.{add-one}
use lib.Dec.{leb}
use lib.ListN.{length, drop, get_or, drop_of_length-le}
use lib.Seq.{drop-cons}
use borrow.Author.Tests.{leb-true}
use Rattle.laws_base.specs.Test.{and_both}
use Rattle.model.specs.Basic.{distinct}
use Rattle.model.specs.Instant.{day}
use Rattle.model.specs.Answer.{Answer, gives, refuses, ◌>>=◌}
use Rattle.model.specs.Pack.{Named}
use Rattle.model.specs.Tzif.{Zone}
use Rattle.model.specs.Book.{Body, default, work, pause, holidays, Entry, tally, within_limits}
use Rattle.model.specs.Book as books
use Rattle.model.specs.Working as model
use Rattle.model.specs.Build.{no_rules, with_rule, zone_used, rules_of}
use Rattle.book.specs.declared.Entry as code
use Rattle.book.specs.Limits.{most_records, most_work, most_breaks, most_holidays, most_dates}
use Rattle.book.proofs.Tally.{tally-more}
use Rattle.book.specs.Meaning.{records_of, body_in, meaning, no_entry, IsEntry}
use Rattle.rule.specs.declared.Schedule.{Schedule}
use Rattle.rule.specs.Rules.{schedule_is, most_limit}
use Rattle.build.specs.declared.Opened.{Opened}
use Rattle.build.specs.declared.LastLookup.{LastLookup}
use Rattle.build.proofs.Lookups.{knows_after}
use Rattle.build.specs.Read.{LooksUp, lookup_after, files_of, zone_meant, AnswersUsed, first_limit, date_limit, Sized, with_record, RulesFit, RecordRoom, Adds, ReadsBook}

-- ---- records that were read, and those that are left

-- the rules of a, then those of s; both have the 366 days
abbrev pub behind : model.Schedule → model.Schedule → model.Schedule
behind a s = record { work = a.work ++ s.work; breaks = a.breaks ++ s.breaks; holidays = a.holidays ++ s.holidays; limit = a.limit + s.limit - 366 * day }

-- the rules of a, then those of the records l
unfoldable pub rest_of : List Named → Zone → model.Schedule → List Entry → Answer model.Schedule
rest_of files z a l = rules_of files z l >>= λ s. gives (behind a s)

behind-first : (s : model.Schedule) → behind no_rules s ≡ s
behind-first s =
    let l : 366 * day + s.limit - 366 * day ≡ s.limit = omega arith in
    λ i. record { work = s.work; breaks = s.breaks; holidays = s.holidays; limit = l i }

behind-last : (a : model.Schedule) → behind a no_rules ≡ a
behind-last a =
    let l : a.limit + 366 * day - 366 * day ≡ a.limit = omega arith in
    λ i. record { work = append-nil a.work i; breaks = append-nil a.breaks i; holidays = append-nil a.holidays i; limit = l i }

behind_more : (a : model.Schedule) (x : Body) (y : Zone) (s : model.Schedule) → behind a (with_rule x y s) ≡ behind (with_record x y a) s
behind_more a default y s = refl
behind_more a (work h) y s =
    λ i. record { work = sym (append_assoc a.work (model.shift_rule y h ∷ []) s.work) i; breaks = a.breaks ++ s.breaks; holidays = a.holidays ++ s.holidays; limit = a.limit + s.limit - 366 * day }
behind_more a (pause h) y s =
    λ i. record { work = a.work ++ s.work; breaks = sym (append_assoc a.breaks (model.shift_rule y h ∷ []) s.breaks) i; holidays = a.holidays ++ s.holidays; limit = a.limit + s.limit - 366 * day }
behind_more a (holidays d) y s =
    let l : a.limit + (s.limit + 7 * length (distinct d) * day) - 366 * day ≡ a.limit + 7 * length (distinct d) * day + s.limit - 366 * day = omega arith in
    λ i. record { work = a.work ++ s.work; breaks = a.breaks ++ s.breaks; holidays = sym (append_assoc a.holidays (record { zone = y; dates = distinct d } ∷ []) s.holidays) i; limit = l i }

same_gives : {A : Type 0} (f : A → A) → ((a : A) → f a ≡ a) → (o : Answer A) → (o >>= λ a. gives (f a)) ≡ o
same_gives f h (gives a) = ap gives (h a)
same_gives f h (refuses n k) = refl

then-gives : {A : Type 0} (f g h : A → A) → ((a : A) → g (f a) ≡ h a) → (o : Answer A) → ((o >>= λ a. gives (f a)) >>= λ a. gives (g a)) ≡ (o >>= λ a. gives (h a))
then-gives f g h e (gives a) = ap gives (e a)
then-gives f g h e (refuses n k) = refl

module _ (files : List Named) (z : Zone) where
  rest-start : (l : List Entry) → rest_of files z no_rules l ≡ rules_of files z l
  unfolding rest_of
  rest-start l = same_gives (behind no_rules) behind-first (rules_of files z l)

  rest_end : (a : model.Schedule) → rest_of files z a [] ≡ gives a
  unfolding rest_of rules_of
  rest_end a = ap gives (behind-last a)

  module _ (a : model.Schedule) (e : Entry) (l : List Entry) where
    rest_more : {y : Zone} → zone_used files z e e.body ≡ gives y → rest_of files z a (e ∷ l) ≡ rest_of files z (with_record e.body y a) l
    unfolding rest_of rules_of
    rest_more {y} q = rw q (then-gives (with_rule e.body y) (behind a) (behind (with_record e.body y a)) (behind_more a e.body y) (rules_of files z l))

    rest-refused : {n k : ℕ} → zone_used files z e e.body ≡ refuses n k → rest_of files z a (e ∷ l) ≡ refuses n k
    unfolding rest_of rules_of
    rest-refused q = rw q

-- ---- the loop

-- s has the rules of the first i records, and there is room for the rest
pub record Reading (b p : List ℕ) (z : Zone) (i : ℕ) (s : Schedule) : Type 0 where
  pub rest : rest_of (files_of p) z (schedule_is b p s) (drop i (records_of b)) ≡ rules_of (files_of p) z (records_of b)
  pub kept : RulesFit b p s
  pub works : s.works + tally books.works (drop i (records_of b)) ≤ most_work
  pub pauses : s.pauses + tally books.pauses (drop i (records_of b)) ≤ most_breaks
  pub closings : s.closings + tally books.holiday_records (drop i (records_of b)) ≤ most_holidays
  pub limit : s.limit + date_limit * tally books.dates (drop i (records_of b)) ≤ most_limit

record Limits (l : List Entry) : Type 0 where
  works : tally books.works l ≤ most_work
  pauses : tally books.pauses l ≤ most_breaks
  closings : tally books.holiday_records l ≤ most_holidays
  dates : tally books.dates l ≤ most_dates

limits_of : (l : List Entry) → within_limits l ≡ true → Limits l
unfolding within_limits
limits_of l e =
    let w = tally books.works l in
    let p = tally books.pauses l in
    let h = tally books.holiday_records l in
    let d = tally books.dates l in
    let a = and_both (leb (length l) most_records) (leb w most_work && (leb p most_breaks && (leb h most_holidays && leb d most_dates))) e in
    let b = and_both (leb w most_work) (leb p most_breaks && (leb h most_holidays && leb d most_dates)) a.1 in
    let c = and_both (leb p most_breaks) (leb h most_holidays && leb d most_dates) b.1 in
    let f = and_both (leb h most_holidays) (leb d most_dates) c.1 in
    record { works = leb-true w most_work b.0; pauses = leb-true p most_breaks c.0; closings = leb-true h most_holidays f.0; dates = leb-true d most_dates f.1 }

-- a schedule of that size has no rules
pub no-rules : (b p : List ℕ) {s : Schedule} → Sized s 0 0 0 first_limit → schedule_is b p s ≡ no_rules
no-rules b p h = rw (h.works, h.pauses, h.closings, h.limit)

module _ (b p : List ℕ) (z : Zone) where
  pub reading-start : within_limits (records_of b) ≡ true → {s : Schedule} → Sized s 0 0 0 first_limit → Reading b p z 0 s
  reading-start w {s} h =
      let m = limits_of (records_of b) w in
      let n : schedule_is b p s ≡ no_rules = no-rules b p h in
      record {
        rest = rw n (rest-start (files_of p) z (records_of b));
        kept = record { work = rw h.works tt; breaks = rw h.pauses tt; closed = rw h.closings tt };
        works = omega (arith, h.works, m.works);
        pauses = omega (arith, h.pauses, m.pauses);
        closings = omega (arith, h.closings, m.closings);
        limit = omega (arith, h.limit, m.dates);
      }

  -- the loop's end
  pub reading-end : (i : ℕ) (s : Schedule) → Reading b p z i s → length (records_of b) ≤ i → ReadsBook b p (Ok s) (rules_of (files_of p) z (records_of b))
  reading-end i s r h = record {
    means = sym (rest_end (files_of p) z (schedule_is b p s)) ∙ rw (drop_of_length-le (records_of b) h) at r.rest;
    fits = record {
      kept = r.kept;
      works = omega (arith, r.works);
      pauses = omega (arith, r.pauses);
      closings = omega (arith, r.closings);
      limit = omega (arith, r.limit);
    };
  }

  module _ (i : ℕ) (s : Schedule) (r : Reading b p z i s) (h : i < length (records_of b)) (e : code.Entry) (is : IsEntry b i e) where
    body_is : (get_or (records_of b) i no_entry).body ≡ body_in b e
    unfolding meaning
    body_is = ap (λ (x : Entry). x.body) (sym is.means)

    tally-next : (f : Body → ℕ) → tally f (drop i (records_of b)) ≡ f (body_in b e) + tally f (drop (i + 1) (records_of b))
    tally-next f = tally-more f (records_of b) i h ∙ rw body_is

    rest-next : rest_of (files_of p) z (schedule_is b p s) (meaning b e ∷ drop (i + 1) (records_of b)) ≡ rules_of (files_of p) z (records_of b)
    rest-next = ap (λ (l : List Entry). rest_of (files_of p) z (schedule_is b p s) l) (rw (add-one i, is.means) (sym (drop-cons (records_of b) i no_entry h))) ∙ r.rest

    pub room-is : RecordRoom b s e
    room-is = record {
      works = omega (arith, r.works, tally-next books.works);
      pauses = omega (arith, r.pauses, tally-next books.pauses);
      closings = omega (arith, r.closings, tally-next books.holiday_records);
      limit = omega (arith, r.limit, tally-next books.dates);
      kind = is.kind;
      timed = is.timed;
      dates = is.dates;
    }

    module _ (d : Opened) (ed : z ≡ zone_meant p d) where
      -- the record's zone was found, and the schedule t has the record
      pub step-more : {o : Opened} {t : Schedule} → AnswersUsed b p e d (Ok o) → Adds b p s e o t → Reading b p z (i + 1) t
      unfolding meaning
      step-more {o} {t} w g =
          let a : zone_used (files_of p) z (meaning b e) (meaning b e).body ≡ gives (zone_meant p o) = rw ed (sym w.means) in
          record {
            rest = rw g.means (sym (rest_more (files_of p) z (schedule_is b p s) (meaning b e) (drop (i + 1) (records_of b)) a) ∙ rest-next);
            kept = g.kept w.fits r.kept;
            works = omega (arith, r.works, g.works, tally-next books.works);
            pauses = omega (arith, r.pauses, g.pauses, tally-next books.pauses);
            closings = omega (arith, r.closings, g.closings, tally-next books.holiday_records);
            limit = omega (arith, r.limit, g.limit, tally-next books.dates);
          }

      -- the zone that is known behind the record
      pub step-knows : {o : Opened} → AnswersUsed b p e d (Ok o) → (k : std.Option LastLookup) {r : std.Option LastLookup} → LooksUp b p k → r ≡ lookup_after e o k → LooksUp b p r
      step-knows {o} w k v er = rw er (knows_after b p e k v (zone_meant p d) o is.name w.means w.fits)

      -- its zone was not found
      pub step-refused : {x : Refused} → AnswersUsed b p e d (Err x) → ReadsBook b p (Err x) (rules_of (files_of p) z (records_of b))
      unfolding meaning
      step-refused {x} w =
          let a : zone_used (files_of p) z (meaning b e) (meaning b e).body ≡ refuses (number_of x.refusal) x.place = rw ed (sym w.means) in
          record { means = sym (rest-refused (files_of p) z (schedule_is b p s) (meaning b e) (drop (i + 1) (records_of b)) a) ∙ rest-next; fits = tt }
