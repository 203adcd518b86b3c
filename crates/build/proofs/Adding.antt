-- A schedule with one record more: what it means, and that its rules fit.
use mathlib.Core.Path.{◌≡◌, ap, ◌∙◌}
use mathlib.Core.List.{List, [], ◌∷◌, ◌++◌}
use Prim.Native.Nat.{ℕ, ◌+◌, ◌*◌, ◌≤◌, ◌<◌}
use native.Mathlib.Omega.{arith}
use native.Mathlib.Numerals.{add-one}
use lib.ListN.{length, take, set, length-set}
use lib.Seq.{take-suc-set}
use Rattle.model.specs.Basic.{distinct}
use Rattle.model.specs.Instant.{second, day}
use Rattle.model.specs.Working as model
use Rattle.laws_base.specs.Front.{front-push}
use Rattle.book.specs.declared.Entry.{Entry}
use Rattle.book_dates.specs.Days.{dates_at, HasDates}
use Rattle.book_dates.proofs.Dates.{length-dates}
use Rattle.book.specs.Limits.{most_work, most_breaks, most_holidays}
use Rattle.book.specs.Meaning.{IsTimed}
use Rattle.rule.specs.declared.Rule.{Rule}
use Rattle.rule.specs.declared.HolidayDates.{HolidayDates}
use Rattle.rule.specs.declared.Schedule.{Schedule}
use Rattle.rule.specs.Rules.{rule_is, holidays_is, schedule_is, RuleFits, HolidaysFit, most_limit}
use Rattle.laws_base.specs.Every.{Every, every-both}
use Rattle.build.specs.declared.Opened.{Opened}
use Rattle.build.specs.Read.{zone_meant, OpenedWell, rule_from, holidays_from, date_limit, with_work, with_break, with_closed, Long, RecordRoom, Adds}

-- ---- one element more

all_push : {A : Type 0} (P : A → Type 0) (n : ℕ) (l : List A) (x : A) → n < length l → Every P (take n l) → P x → Every P (take (n + 1) (set l n x))
all_push P n l x h a k = rw (add-one n, take-suc-set l n x h) (every-both P (take n l) (x ∷ []) a (k, tt))

module _ (p : List ℕ) (e : Entry) (o : Opened) where
  rule_fits : OpenedWell p o → IsTimed e → RuleFits p (rule_from e o)
  rule_fits w t = record {
    opened = w;
    days = t.days;
    from = record { seconds = t.start-seconds; nanos = t.start-nanos };
    to = record { seconds = t.end-seconds; nanos = t.end-nanos };
  }

-- 7 days in seconds for each of k dates
more-limit : (l k : ℕ) → (l + date_limit * k) * second ≡ l * second + 7 * k * day
more-limit l k = omega arith

-- ---- room for the record, by its kind

module _ (b : List ℕ) (s : Schedule) (e : Entry) (room : RecordRoom b s e) where
  pub work-room : e.kind ≡ 1 → s.works < most_work
  work-room q = let h : s.works + 1 ≤ most_work = rw q at room.works in omega arith

  pub pause-room : e.kind ≡ 2 → s.pauses < most_breaks
  pause-room q = let h : s.pauses + 1 ≤ most_breaks = rw q at room.pauses in omega arith

  -- none of the other kinds
  pub kind-none : (e.kind ≡ 1 → ⊥) → (e.kind ≡ 2 → ⊥) → (e.kind ≡ 3 → ⊥) → e.kind ≡ 0
  kind-none n₁ n₂ n₃ = omega (arith, room.kind)

  module _ (is-three : e.kind ≡ 3) where
    closed-room : s.closings + 1 ≤ most_holidays
    closed-room = rw is-three at room.closings

    limit-room : s.limit + date_limit * e.count ≤ most_limit
    limit-room = rw (is-three, length-dates b e.dates e.count) at room.limit

    pub has-dates : HasDates b e.dates e.count
    has-dates = room.dates is-three

    pub closed-fits : {k : ℕ} → k ≤ e.count → (s.closings < most_holidays) × (s.limit + date_limit * k ≤ most_limit)
    closed-fits {k} h = (omega (arith, closed-room), omega (arith, limit-room))

-- ---- its arrays stay as long

module _ (s : Schedule) (h : Long s) where
  pub long-work : (x : Rule) → Long (with_work s x)
  long-work x = record { work = length-set s.work s.works x ∙ h.work; breaks = h.breaks; closed = h.closed }

  pub long-break : (x : Rule) → Long (with_break s x)
  long-break x = record { work = h.work; breaks = length-set s.breaks s.pauses x ∙ h.breaks; closed = h.closed }

  pub long-closed : (x : HolidayDates) (k : ℕ) → Long (with_closed s x k)
  long-closed x k = record { work = h.work; breaks = h.breaks; closed = length-set s.closed s.closings x ∙ h.closed }

-- ---- the schedule with the record

module _ (b p : List ℕ) (s : Schedule) (e : Entry) (o : Opened) (room : RecordRoom b s e) where
  pub adds_none : e.kind ≡ 0 → Adds b p s e o s
  adds_none q = record {
    means = rw q;
    kept = λ _ k. k;
    works = rw q (omega arith);
    pauses = rw q (omega arith);
    closings = rw q (omega arith);
    limit = rw q (omega arith);
  }

  module _ (q : e.kind ≡ 1) where
    timed-work : IsTimed e
    timed-work = room.timed (omega arith) (omega arith)

    pub adds-work : {x : Rule} {r : Schedule} → x ≡ rule_from e o → r ≡ with_work s x → length s.work ≡ most_work → Adds b p s e o r
    adds-work ex er el =
        let h : s.works < length s.work = omega (arith, work-room b s e room q) in
        rw (er, ex) (record {
          means = rw q (ap (λ (w : List model.Rule). record { work = w; breaks = (schedule_is b p s).breaks; holidays = (schedule_is b p s).holidays; limit = s.limit * second }) (front-push (rule_is p) s.works s.work (rule_from e o) h));
          kept = λ w k. record { work = all_push (RuleFits p) s.works s.work (rule_from e o) h k.work (rule_fits p e o w timed-work); breaks = k.breaks; closed = k.closed };
          works = rw q;
          pauses = rw q (omega arith);
          closings = rw q (omega arith);
          limit = rw q (omega arith);
        })

  module _ (q : e.kind ≡ 2) where
    timed-pause : IsTimed e
    timed-pause = room.timed (omega arith) (omega arith)

    pub adds-break : {x : Rule} {r : Schedule} → x ≡ rule_from e o → r ≡ with_break s x → length s.breaks ≡ most_breaks → Adds b p s e o r
    adds-break ex er el =
        let h : s.pauses < length s.breaks = omega (arith, pause-room b s e room q) in
        rw (er, ex) (record {
          means = rw q (ap (λ (w : List model.Rule). record { work = (schedule_is b p s).work; breaks = w; holidays = (schedule_is b p s).holidays; limit = s.limit * second }) (front-push (rule_is p) s.pauses s.breaks (rule_from e o) h));
          kept = λ w k. record { work = k.work; breaks = all_push (RuleFits p) s.pauses s.breaks (rule_from e o) h k.breaks (rule_fits p e o w timed-pause); closed = k.closed };
          works = rw q (omega arith);
          pauses = rw q;
          closings = rw q (omega arith);
          limit = rw q (omega arith);
        })

  module _ (t : e.kind ≡ 3) where
    pub adds-closed : {x : HolidayDates} {r : Schedule} {k : ℕ} → x ≡ holidays_from e o → r ≡ with_closed s x k → length s.closed ≡ most_holidays →
        k ≡ length (distinct (dates_at b e.dates e.count)) → k ≤ e.count → Adds b p s e o r
    adds-closed {k = k} ex er el ek few =
        let h : s.closings < length s.closed = omega (arith, closed-room b s e room t) in
        let d = distinct (dates_at b e.dates e.count) in
        let a : (schedule_is b p (with_closed s (holidays_from e o) k)).holidays ≡ (schedule_is b p s).holidays ++ (record { zone = zone_meant p o; dates = d } ∷ []) =
        front-push (holidays_is b p) s.closings s.closed (holidays_from e o) h in
        let l : (s.limit + date_limit * k) * second ≡ s.limit * second + 7 * length d * day = more-limit s.limit k ∙ ap (λ (m : ℕ). s.limit * second + 7 * m * day) ek in
        rw (er, ex) (record {
          means = rw t (λ i. record { work = (schedule_is b p s).work; breaks = (schedule_is b p s).breaks; holidays = a i; limit = l i });
          kept = λ w j. record { work = j.work; breaks = j.breaks; closed = all_push (HolidaysFit b p) s.closings s.closed (holidays_from e o) h j.closed (record { opened = w; inside = (has-dates b s e room t).0 }) };
          works = rw t (omega arith);
          pauses = rw t (omega arith);
          closings = rw t;
          limit = rw (t, length-dates b e.dates e.count) (omega arith);
        })
