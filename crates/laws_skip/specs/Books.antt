-- The laws of skipping and the bounds on blocks, for every book that builds.
use Rattle.std.specs.Prelude.{◌≡◌, true, ◌&&◌, ℕ, suc, ◌+◌, ◌*◌, ◌-◌, ◌≤◌, leb, length}
use Rattle.std.proofs.Math.Path.{refl}
use Rattle.std.proofs.Common.{subst, leb-true}
use Rattle.std.proofs.Math.Option.{none, some}
use mathlib.Core.List.{List, [], ◌∷◌, map}
use native.Mathlib.Omega.{arith}
use Rattle.model.specs.Basic.{given, sum, distinct}
use Rattle.model.specs.Instant.{day, week}
use Rattle.model.specs.Pack.{Named, pack_of}
use Rattle.model.specs.Tzif.{Zone}
use Rattle.model.specs.Answer.{gives, or_refuse}
use Rattle.model.specs.Book.{Hours, Body, default, work, pause, holidays, Entry, entries_of, within_limits, last_default, works, pauses, holiday_records, dates, tally}
use Rattle.model.specs.Working.{Holidays, Schedule, shift_rule, holiday_rule, blocks_of_all, working}
use Rattle.model.specs.Walk.{Way, at, reach, ahead, begun, time_between, search}
use Rattle.model.specs.Skip.{repeats, needed_between}
use Rattle.model.specs.Build.{default_zone, zone_used, no_rules, with_rule, rules_of, works_in_2001, build}
use Rattle.laws_base.specs.Test.{and_both}
use Rattle.laws_blocks.specs.Move.{moves}
use Rattle.laws_blocks.specs.Count672.{most_blocks}
use Rattle.laws_zone.specs.Sound.{Sound}
use Rattle.laws_base.specs.Every.{Every, every-both}
use Rattle.laws_demand3.specs.Windows.{RuleOk, OfRules, off_rules}
use Rattle.laws_demand3.specs.Built.{HoursOk, BodyOk, EntryOk, entries_fit, default-is, zone-is}
use Rattle.laws_skip.specs.Steady.{WeeklyRules, shift-weekly, repeats-week}
use Rattle.laws_skip.specs.Records.{step-gave, or-gave, test-gave}
use Rattle.laws_skip.specs.Counts.{Few, work-seven, off-seven, working-seven}
use Rattle.laws_skip.specs.Skips.{skip_time, skip_search, SearchAnswers}
use Rattle.laws_skip.specs.Schedules.{between-skipping, between-exact, between-most, search-skipping}

-- ---- the rules that records make

record Made (s : Schedule) (l : List Entry) : Type 0 where
  work-ok : Every RuleOk s.work
  breaks-ok : Every RuleOk s.breaks
  holidays-ok : Every RuleOk (map holiday_rule s.holidays)
  weekly : WeeklyRules s
  work-many : length s.work ≡ tally works l
  breaks-many : length s.breaks ≡ tally pauses l
  holidays-many : length s.holidays ≡ tally holiday_records l
  enough : 366 * day ≤ s.limit

no_more : {a b : ℕ} → a ≡ b → a ≡ 0 + b
no_more p = omega arith

one_more : {a b : ℕ} → a ≡ b → suc a ≡ 1 + b
one_more p = omega arith

-- a shift's rule is right, and a holiday's
shift-ok : (z : Zone) (h : Hours) → Sound z → HoursOk h → RuleOk (shift_rule z h)
shift-ok z h s f = record { sound = s; from-day = f.0; to-day = f.1 }

free-ok : (h : Holidays) → Sound h.zone → RuleOk (holiday_rule h)
free-ok h s = record { sound = s; from-day = omega arith; to-day = omega arith }

module _ (files : List Named) (z : Zone) (sound : Sound z) where
  made_more : (e : Entry) (b : Body) → e.body ≡ b → BodyOk b → (l : List Entry) (y : Zone) → zone_used files z e b ≡ gives y → (s : Schedule) → Made s l → Made (with_rule b y s) (e ∷ l)
  unfolding sum
  made_more e default p f l y u s m = record {
    work-ok = m.work-ok;
    breaks-ok = m.breaks-ok;
    holidays-ok = m.holidays-ok;
    weekly = m.weekly;
    work-many = rw p (no_more m.work-many);
    breaks-many = rw p (no_more m.breaks-many);
    holidays-many = rw p (no_more m.holidays-many);
    enough = m.enough;
  }
  made_more e (work h) p f l y u s m = record {
    work-ok = (shift-ok y h (zone-is files z sound e y u) f, m.work-ok);
    breaks-ok = m.breaks-ok;
    holidays-ok = m.holidays-ok;
    weekly = ((shift-weekly y h, m.weekly.0), m.weekly.1);
    work-many = rw p (one_more m.work-many);
    breaks-many = rw p (no_more m.breaks-many);
    holidays-many = rw p (no_more m.holidays-many);
    enough = m.enough;
  }
  made_more e (pause h) p f l y u s m = record {
    work-ok = m.work-ok;
    breaks-ok = (shift-ok y h (zone-is files z sound e y u) f, m.breaks-ok);
    holidays-ok = m.holidays-ok;
    weekly = (m.weekly.0, (shift-weekly y h, m.weekly.1));
    work-many = rw p (no_more m.work-many);
    breaks-many = rw p (one_more m.breaks-many);
    holidays-many = rw p (no_more m.holidays-many);
    enough = m.enough;
  }
  made_more e (holidays d) p f l y u s m = record {
    work-ok = m.work-ok;
    breaks-ok = m.breaks-ok;
    holidays-ok = (free-ok (record { zone = y; dates = distinct d }) (zone-is files z sound e y u), m.holidays-ok);
    weekly = m.weekly;
    work-many = rw p (no_more m.work-many);
    breaks-many = rw p (no_more m.breaks-many);
    holidays-many = rw p (one_more m.holidays-many);
    enough = (let a = m.enough in omega arith);
  }

  rules-made : (l : List Entry) → Every EntryOk l → (s : Schedule) → rules_of files z l ≡ gives s → Made s l
  unfolding rules_of sum
  rules-made [] f s e =
      let p : no_rules ≡ s = cc in
      rw (← p) (record { work-ok = tt; breaks-ok = tt; holidays-ok = tt; weekly = (tt, tt); work-many = refl; breaks-many = refl; holidays-many = refl; enough = omega arith })
  rules-made (e ∷ l) f s g =
      let a = step-gave (zone_used files z e e.body) g in
      let b = step-gave (rules_of files z l) a.2 in
      let c = b.2 in
      let p : with_rule e.body a.0 b.0 ≡ s = cc in
      rw (← p) (made_more e e.body refl f.0 l a.0 a.1 b.0 (rules-made l f.1 b.0 b.1))

-- ---- what the records of a book within the limits make, also where `build` then finds no work in it

-- the rules are right, those of work and breaks show the same dates each week, and there are at most 16, 16 and 8
pub record BuiltWell (s : Schedule) : Type 0 where
  pub ok : OfRules RuleOk s
  pub weekly : WeeklyRules s
  pub few : Few s
  pub limit : 2 * week ≤ s.limit

within-few : (l : List Entry) → within_limits l ≡ true → (tally works l ≤ 16) × (tally pauses l ≤ 16) × (tally holiday_records l ≤ 8)
unfolding within_limits
within-few l e =
    let a = and_both (leb (length l) 64) (leb (tally works l) 16 && (leb (tally pauses l) 16 && (leb (tally holiday_records l) 8 && leb (tally dates l) 512))) e in
    let b = and_both (leb (tally works l) 16) (leb (tally pauses l) 16 && (leb (tally holiday_records l) 8 && leb (tally dates l) 512)) a.1 in
    let c = and_both (leb (tally pauses l) 16) (leb (tally holiday_records l) 8 && leb (tally dates l) 512) b.1 in
    let d = and_both (leb (tally holiday_records l) 8) (leb (tally dates l) 512) c.1 in
    (leb-true (tally works l) 16 b.0, leb-true (tally pauses l) 16 c.0, leb-true (tally holiday_records l) 8 d.0)

pub rules-well : (book : List ℕ) (l : List Entry) → entries_of book ≡ some l → within_limits l ≡ true
    → (files : List Named) (z : Zone) → default_zone files (last_default none l) ≡ gives z → (s : Schedule) → rules_of files z l ≡ gives s → BuiltWell s
rules-well book l e lim files z d s r =
    let m = rules-made files z (default-is files (last_default none l) z d) l (entries_fit book l e) s r in
    let w = within-few l lim in
    let w0 = w.0 in let w1 = w.1 in let w2 = w.2 in
    let a = m.work-many in let b = m.breaks-many in let c = m.holidays-many in let i = m.enough in
    record {
      ok = (m.work-ok, every-both RuleOk s.breaks (map holiday_rule s.holidays) m.breaks-ok m.holidays-ok);
      weekly = m.weekly;
      few = record { works = omega arith; pauses = omega arith; free = omega arith };
      limit = omega arith;
    }

-- ---- a book that builds

pub build-well : (book pack : List ℕ) (s : Schedule) → build book pack ≡ gives s → BuiltWell s
unfolding build
build-well book pack s e =
    let a = step-gave (or_refuse 1 0 (entries_of book)) e in
    let l = a.0 in
    let b = step-gave (or_refuse 2 0 (given (within_limits l) l)) a.2 in
    let c = step-gave (or_refuse 3 0 (pack_of pack)) b.2 in
    let d = step-gave (default_zone c.0 (last_default none l)) c.2 in
    let r = step-gave (rules_of c.0 d.0 l) d.2 in
    let p : r.0 ≡ s = (test-gave 6 0 (works_in_2001 r.0) r.0 r.2).1 in
    subst BuiltWell p
    (rules-well book l (or-gave 1 0 (entries_of book) a.1) (test-gave 2 0 (within_limits l) l b.1).0 c.0 d.0 d.1 r.0 r.1)

module _ (book pack : List ℕ) (s : Schedule) (e : build book pack ≡ gives s) where
  well : BuiltWell s
  well = build-well book pack s e

  -- where the skip test passes, a window is the one before it, a week later
  pub window-repeats : (t : ℕ) → repeats s t ≡ true → (week ≤ t) × (working s t (t + week) ≡ moves week (working s (t - week) t))
  window-repeats t r = repeats-week s well.ok well.weekly t r

  -- `between` with skipping: the time of the plain walk, and the windows that may not be skipped
  pub between-same : (a b : ℕ) → a ≤ b → (skip_time (begun (b - a)) (working s) (repeats s) a b none).time ≡ time_between s a b
  between-same a b h = between-skipping s well.ok well.weekly a b h

  pub between-least : (a b : ℕ) → a ≤ b → (skip_time (begun (b - a)) (working s) (repeats s) a b none).count ≡ needed_between s a b
  between-least a b h = between-exact s well.ok well.weekly a b h

  pub between-upto : (a b : ℕ) → a ≤ b → (skip_time (begun (b - a)) (working s) (repeats s) a b none).count ≤ begun (b - a)
  between-upto a b h = between-most s well.ok well.weekly a b h

  -- `add` and `sub` with skipping: the answer of the plain search, and of one that is found both bounds
  pub search-same : (w : Way) (t d : ℕ)
      → SearchAnswers (ahead w s t) (λ y. repeats s (at w t y)) (reach w t) d (skip_search (ahead w s t) (λ y. repeats s (at w t y)) s.limit (reach w t) d) (search w s t d)
  search-same w t d = search-skipping s well.ok well.weekly w t d well.limit

  -- the blocks of a window are few enough
  pub window-blocks : (lo hi : ℕ) → hi ≤ lo + 7 * day
      → (length (blocks_of_all lo hi s.work) ≤ most_blocks) × (length (blocks_of_all lo hi (off_rules s)) ≤ most_blocks) × (length (working s lo hi) ≤ most_blocks)
  window-blocks lo hi h =
      let a = work-seven s well.ok well.few lo hi h in let b = off-seven s well.ok well.few lo hi h in
      (omega arith, omega arith, working-seven s well.ok well.few lo hi h)
