-- What the code answers, in terms of the definitions: the zone of a record, a schedule with one record more, and the answer of `build`.
use Rattle.std.specs.Prelude.{◌≡◌, refl, List, [], ◌∷◌, ◌++◌, ℕ, ◌+◌, ◌*◌, ◌≤◌, eqb, length, take, drop, set, Bool, true, if◌then◌else◌, Some, None, Result, Ok, Err, IfOk}
use Rattle.std.specs.Prelude as std
use Rattle.std.proofs.Common.{sym}
use Rattle.std.proofs.Math.Option.{Option, none, some}
use Rattle.laws_base.specs.Test.{by-test}
use Rattle.model.specs.Basic.{given, distinct}
use Rattle.model.specs.Instant.{day, week_seconds}
use Rattle.model.specs.Answer.{Answer, gives, refuses, ◌>>=◌, or_refuse}
use Rattle.model.specs.Pack.{Named, pack_of}
use Rattle.model.specs.Tzif.{Zone}
use Rattle.model.specs.Zone as zones
use Rattle.model.specs.Book as books
use Rattle.model.specs.Book.{Body, default, work, pause, holidays, entries_of, within_limits, last_default}
use Rattle.model.specs.Working as model
use Rattle.model.specs.Build.{lookup, default_zone, zone_used, rules_of, works_in_2001, build}
use Rattle.big_endian.specs.Maybe.{or_empty}
use Rattle.refusal.specs.declared.Refused.{Refused}
use Rattle.refusal.specs.Answered.{answer_of}
use Rattle.book.specs.declared.Entry.{Entry}
use Rattle.zone_pack.specs.Pack.{is_pack}
use Rattle.book_dates.specs.Days.{HasDates}
use Rattle.book.specs.Limits.{most_work, most_breaks, most_holidays}
use Rattle.book.specs.Meaning.{records_of, default_kind, work_kind, break_kind, holidays_kind, body_in, meaning, NameIn, IsTimed}
use Rattle.book.specs.Accepts.{is_book}
use Rattle.zone.specs.Zones.{zone_is, ZoneOk}
use Rattle.rule.specs.declared.Rule.{Rule}
use Rattle.rule.specs.declared.HolidayDates.{HolidayDates}
use Rattle.rule.specs.declared.Schedule.{Schedule}
use Rattle.rule.specs.Rules.{file_at, schedule_is, RuleFits, HolidaysFit, ScheduleFits, most_limit}
use Rattle.laws_base.specs.Every.{Every}
use Rattle.build.specs.declared.Opened.{Opened}
use Rattle.build.specs.declared.LastLookup.{LastLookup}

-- ---- the definitions' `build` without its last step, the search for work

unfoldable pub rules_read : List ℕ → List ℕ → Answer model.Schedule
rules_read book pack =
    or_refuse 1 0 (entries_of book) >>= λ l.
    or_refuse 2 0 (given (within_limits l) l) >>= λ _.
    or_refuse 3 0 (pack_of pack) >>= λ p.
    default_zone p (last_default none l) >>= λ z.
    rules_of p z l

-- ---- book and pack

-- they pass refusals 1 to 3: the book keeps its layout and its limits, and the pack its layout
abbrev pub Checked : List ℕ → List ℕ → Type 0
Checked b p = (is_book b ≡ true) × (within_limits (records_of b) ≡ true) × (is_pack p ≡ true)

-- ---- zones

-- the pack's zones; none where its layout does not hold
abbrev pub files_of : List ℕ → List Named
files_of p = or_empty (pack_of p)

-- the definitions' zone
abbrev pub zone_meant : List ℕ → Opened → Zone
zone_meant p o = zone_is (file_at p o.at o.len) o.zone

-- its file is usable, and was opened
abbrev pub OpenedWell : List ℕ → Opened → Type 0
OpenedWell p o = ZoneOk (file_at p o.at o.len) o.zone

-- it is UTC
pub record IsUtc (p : List ℕ) (o : Opened) : Type 0 where
  pub means : zone_meant p o ≡ zones.utc
  pub opened : OpenedWell p o

-- r stands for the answer a, and what it found is open
pub record ZoneAnswers (p : List ℕ) (r : Result Opened Refused) (a : Answer Zone) : Type 0 where
  pub means : answer_of (zone_meant p) r ≡ a
  pub fits : IfOk r (OpenedWell p)

-- so it is for the zone that a record names, the default zone, and the zone that a record uses where d is the default zone
abbrev pub AnswersNamed : List ℕ → List ℕ → Entry → Result Opened Refused → Type 0
AnswersNamed b p e r = ZoneAnswers p r (lookup (files_of p) (meaning b e))

abbrev pub AnswersDefault : List ℕ → List ℕ → Result Opened Refused → Type 0
AnswersDefault b p r = ZoneAnswers p r (default_zone (files_of p) (last_default none (records_of b)))

abbrev pub AnswersUsed : List ℕ → List ℕ → Entry → Opened → Result Opened Refused → Type 0
AnswersUsed b p e d r = ZoneAnswers p r (zone_used (files_of p) (zone_meant p d) (meaning b e) (body_in b e))

-- ---- a zone that is known

-- the record's name is that which was found last
abbrev pub SameName : List ℕ → Entry → LastLookup → Type 0
SameName b e k = take e.letters (drop e.name b) ≡ take k.letters (drop k.name b)

-- every record with the name gets the zone
pub record Names (b p : List ℕ) (k : LastLookup) : Type 0 where
  pub means : (e : books.Entry) → e.name ≡ take k.letters (drop k.name b) → lookup (files_of p) e ≡ gives (zone_meant p k.zone)
  pub opened : OpenedWell p k.zone

-- what is known is so
abbrev pub LooksUp : List ℕ → List ℕ → std.Option LastLookup → Type 0
LooksUp b p k = std.MatchOption k (Unit {0}) (Names b p)

-- the zone of the record e can be sought where k is known
abbrev pub Searchable : List ℕ → List ℕ → Entry → std.Option LastLookup → Type 0
Searchable b p e k = (is_pack p ≡ true) × NameIn b e × LooksUp b p k

-- what is known behind a record that uses o
abbrev pub lookup_after : Entry → Opened → std.Option LastLookup → std.Option LastLookup
lookup_after e o k = if eqb e.kind default_kind then k else if eqb e.letters 0 then k else Some (record { name = e.name; letters = e.letters; zone = o })

-- ---- rules

-- the rule of a work or break record, and that of a holiday record
abbrev pub rule_from : Entry → Opened → Rule
rule_from e o = record { at = o.at; len = o.len; zone = o.zone; days = e.days; from = e.start; to = e.end }

abbrev pub holidays_from : Entry → Opened → HolidayDates
holidays_from e o = record { at = o.at; len = o.len; zone = o.zone; dates = e.dates; count = e.count }

-- the search limit without holidays, and what a date adds to it: 366 days and 7 days in seconds
abbrev pub first_limit : ℕ
first_limit = 31622400

abbrev pub date_limit : ℕ
date_limit = week_seconds

-- a schedule with a rule or a holiday record more
abbrev pub with_work : Schedule → Rule → Schedule
with_work s x = record {
  work = set s.work s.works x;
  works = s.works + 1;
  breaks = s.breaks;
  pauses = s.pauses;
  closed = s.closed;
  closings = s.closings;
  limit = s.limit;
}

abbrev pub with_break : Schedule → Rule → Schedule
with_break s x = record {
  work = s.work;
  works = s.works;
  breaks = set s.breaks s.pauses x;
  pauses = s.pauses + 1;
  closed = s.closed;
  closings = s.closings;
  limit = s.limit;
}

abbrev pub with_closed : Schedule → HolidayDates → ℕ → Schedule
with_closed s x days = record {
  work = s.work;
  works = s.works;
  breaks = s.breaks;
  pauses = s.pauses;
  closed = set s.closed s.closings x;
  closings = s.closings + 1;
  limit = s.limit + date_limit * days;
}

-- how many rules and holiday records a schedule has, and its search limit
pub record Sized (s : Schedule) (a b c l : ℕ) : Type 0 where
  pub works : s.works ≡ a
  pub pauses : s.pauses ≡ b
  pub closings : s.closings ≡ c
  pub limit : s.limit ≡ l

-- its arrays are as long as they are declared
pub record Long (s : Schedule) : Type 0 where
  pub work : length s.work ≡ most_work
  pub breaks : length s.breaks ≡ most_breaks
  pub closed : length s.closed ≡ most_holidays

-- the definitions' schedule with one record more, behind the others
abbrev pub with_record : Body → Zone → model.Schedule → model.Schedule
with_record default z s = s
with_record (work h) z s = record { work = s.work ++ (model.shift_rule z h ∷ []); breaks = s.breaks; holidays = s.holidays; limit = s.limit }
with_record (pause h) z s = record { work = s.work; breaks = s.breaks ++ (model.shift_rule z h ∷ []); holidays = s.holidays; limit = s.limit }
with_record (holidays l) z s =
    let d = distinct l in
    record { work = s.work; breaks = s.breaks; holidays = s.holidays ++ (record { zone = z; dates = d } ∷ []); limit = s.limit + 7 * length d * day }

-- a schedule's rules and holiday records fit
pub record RulesFit (b p : List ℕ) (s : Schedule) : Type 0 where
  pub work : Every (RuleFits p) (take s.works s.work)
  pub breaks : Every (RuleFits p) (take s.pauses s.breaks)
  pub closed : Every (HolidaysFit b p) (take s.closings s.closed)

-- there is room for the record e, and it is one of a book
pub record RecordRoom (b : List ℕ) (s : Schedule) (e : Entry) : Type 0 where
  pub works : s.works + books.works (body_in b e) ≤ most_work
  pub pauses : s.pauses + books.pauses (body_in b e) ≤ most_breaks
  pub closings : s.closings + books.holiday_records (body_in b e) ≤ most_holidays
  pub limit : s.limit + date_limit * books.dates (body_in b e) ≤ most_limit
  pub kind : e.kind ≤ holidays_kind
  pub timed : work_kind ≤ e.kind → e.kind ≤ break_kind → IsTimed e
  pub dates : e.kind ≡ holidays_kind → HasDates b e.dates e.count

-- r is s with the record e more, whose zone is o
pub record Adds (b p : List ℕ) (s : Schedule) (e : Entry) (o : Opened) (r : Schedule) : Type 0 where
  pub means : schedule_is b p r ≡ with_record (body_in b e) (zone_meant p o) (schedule_is b p s)
  pub kept : OpenedWell p o → RulesFit b p s → RulesFit b p r
  pub works : r.works ≡ s.works + books.works (body_in b e)
  pub pauses : r.pauses ≡ s.pauses + books.pauses (body_in b e)
  pub closings : r.closings ≡ s.closings + books.holiday_records (body_in b e)
  pub limit : r.limit ≤ s.limit + date_limit * books.dates (body_in b e)

-- ---- the answer of `build`

-- the rules of a schedule fit, and there are no more than it has places for
pub record RulesRead (b p : List ℕ) (s : Schedule) : Type 0 where
  pub kept : RulesFit b p s
  pub works : s.works ≤ most_work
  pub pauses : s.pauses ≤ most_breaks
  pub closings : s.closings ≤ most_holidays
  pub limit : s.limit ≤ most_limit

-- r stands for the answer a, and its rules fit
pub record ReadsBook (b p : List ℕ) (r : Result Schedule Refused) (a : Answer model.Schedule) : Type 0 where
  pub means : answer_of (schedule_is b p) r ≡ a
  pub fits : IfOk r (RulesRead b p)

-- what an answer r is where the definitions answer a: r stands for it, and a schedule fits
pub record Answers (b p : List ℕ) (r : Result Schedule Refused) (a : Answer model.Schedule) : Type 0 where
  pub means : answer_of (schedule_is b p) r ≡ a
  pub fits : IfOk r (ScheduleFits b p)

-- a schedule that has no rules
abbrev pub IsEmpty : Schedule → Type 0
IsEmpty s = Sized s 0 0 0 first_limit × Long s

-- what filling a schedule comes to: the schedule as it is then, or the refusal
abbrev pub filled : Result (Unit {0}) Refused → Schedule → Result Schedule Refused
filled (Ok x) s = Ok s
filled (Err e) s = Err e

-- what the loop over the records answers where d is the default zone, what is answered before the search for work, and what `build` answers
abbrev pub ReadsRules : List ℕ → List ℕ → Opened → Result Schedule Refused → Type 0
ReadsRules b p d r = ReadsBook b p r (rules_of (files_of p) (zone_meant p d) (records_of b))

abbrev pub AnswersRules : List ℕ → List ℕ → Result Schedule Refused → Type 0
AnswersRules b p r = Answers b p r (rules_read b p)

abbrev pub Builds : List ℕ → List ℕ → Result Schedule Refused → Type 0
Builds b p r = Answers b p r (build b p)

-- ---- the definitions' `build`

then_next : {A B C : Type 0} (o : Answer A) (f : A → Answer B) (g : B → Answer C) → ((o >>= f) >>= g) ≡ (o >>= λ a. f a >>= g)
then_next (gives a) f g = refl
then_next (refuses n k) f g = refl

three-first : {L P S : Type 0} (a : Option L) (t : L → Bool) (c : Option P) (f h : L → P → Answer S) (g : S → Answer S) → ((l : L) (p : P) → (f l p >>= g) ≡ h l p) →
    ((or_refuse 1 0 a >>= λ l. or_refuse 2 0 (given (t l) l) >>= λ _. or_refuse 3 0 c >>= λ p. f l p) >>= g)
    ≡ (or_refuse 1 0 a >>= λ l. or_refuse 2 0 (given (t l) l) >>= λ _. or_refuse 3 0 c >>= λ p. h l p)
three-first none t c f h g k = refl
three-first (some l) t none f h g k = by-test (t l) (λ e. rw e) (λ e. rw e)
three-first (some l) t (some p) f h g k = by-test (t l) (λ e. rw e (k l p)) (λ e. rw e)

-- it is `rules_read` and its last step
pub build-reads : (book pack : List ℕ) → build book pack ≡ (rules_read book pack >>= λ s. or_refuse 6 0 (given (works_in_2001 s) s))
unfolding build rules_read
build-reads book pack =
    sym
    (three-first (entries_of book) within_limits (pack_of pack)
    (λ l p. default_zone p (last_default none l) >>= λ z. rules_of p z l)
    (λ l p. default_zone p (last_default none l) >>= λ z. rules_of p z l >>= λ s. or_refuse 6 0 (given (works_in_2001 s) s))
    (λ s. or_refuse 6 0 (given (works_in_2001 s) s))
    (λ l p. then_next (default_zone p (last_default none l)) (λ z. rules_of p z l) (λ s. or_refuse 6 0 (given (works_in_2001 s) s))))
