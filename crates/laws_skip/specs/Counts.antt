-- How many dates a rule shows, and how many blocks a window has: 672 suffice. A window of at most 14 days shows a rule at most 21 dates, one of
-- at most 7 days at most 14.
use Rattle.std.specs.Prelude.{◌≡◌, refl, Bool, ltb, length}
use Rattle.std.proofs.Common.{ap}
use mathlib.Core.List.{List, [], ◌∷◌, map, append-nil}
use Prim.Native.Nat.{ℕ, zero, suc, ◌+◌, ◌*◌, ◌-◌, ◌≤◌, min, max}
use Rattle.std.proofs.Math.Nat.{suc-mul}
use native.Mathlib.Omega.{arith}
use Rattle.std.proofs.Math.ListN.{length-append}
use Rattle.std.proofs.lemmas.List.{length-map}
use Rattle.model.specs.Basic.{filter, run, joined}
use Rattle.model.specs.Instant.{day}
use Rattle.model.specs.Tzif.{Zone}
use Rattle.model.specs.Blocks.{Block, clipped}
use Rattle.model.specs.Working.{Rule, Schedule, holiday_rule, local_day, first_date, last_date, local_dates, start_of, end_of, blocks_of, blocks_of_all, working}
use Rattle.laws_base.specs.Test.{by-test}
use Rattle.laws_zone.specs.Sound.{Sound}
use Rattle.laws_blocks.specs.Count672.{most_blocks, left-length}
use Rattle.laws_base.specs.Every.{Every, every-apart}
use Rattle.laws_demand3.specs.Windows.{RuleOk, OfRules, off_rules, all-nonempty}
use Rattle.laws_skip.specs.Steady.{}
use Rattle.laws_demand3.specs.Local.{offset-low, offset-high, day-is, first-near, last-near}

-- ---- dates

module _ (z : Zone) (s : Sound z) where
  -- the offsets at the two ends are at most 187,198 s apart
  days-apart : (lo hi k : ℕ) → hi ≤ lo + k * day → local_day z hi ≤ local_day z lo + (k + 3)
  days-apart lo hi k h =
      let a = day-is z s lo in let b = day-is z s hi in
      let c = offset-low z s lo in let d = offset-high z s hi in
      omega arith

  -- the dates of a window of at most k days
  pub dates-most : (lo hi k : ℕ) → hi ≤ lo + k * day → last_date z hi + 1 - first_date z lo ≤ k + 7
  dates-most lo hi k h = let a = days-apart lo hi k h in let b = first-near z s lo in let c = last-near z s hi in omega arith

run_length : (n a : ℕ) → length (run a n) ≡ n
unfolding run
run_length zero a = refl
run_length (suc n) a = ap suc (run_length n (suc a))

pub dates-length : (z : Zone) → Sound z → (lo hi k : ℕ) → hi ≤ lo + k * day → length (local_dates z lo hi) ≤ k + 7
unfolding local_dates
dates-length z s lo hi k h = let a = run_length (last_date z hi + 1 - first_date z lo) (first_date z lo) in let b = dates-most z s lo hi k h in omega arith

-- ---- blocks

pub clipped-length : (lo hi s e : ℕ) → length (clipped lo hi s e) ≤ 1
unfolding clipped
clipped-length lo hi s e = by-test (ltb (max s lo) (min e hi)) (λ p. rw p (omega arith)) (λ p. rw p (omega arith))

filter-length : (t : ℕ → Bool) (l : List ℕ) → length (filter t l) ≤ length l
unfolding filter
filter-length t [] = omega arith
filter-length t (n ∷ l) = let h = filter-length t l in by-test (t n) (λ p. rw p (omega arith)) (λ p. rw p (omega arith))

shown-length : (f : ℕ → List Block) → ((d : ℕ) → length (f d) ≤ 1) → (l : List ℕ) → length (joined (map f l)) ≤ length l
unfolding joined
shown-length f h [] = omega arith
shown-length f h (d ∷ l) = let x = shown-length f h l in let y = h d in rw length-append (omega arith)

-- a rule makes at most one block of each date
pub blocks-length : (lo hi : ℕ) (r : Rule) → length (blocks_of lo hi r) ≤ length (local_dates r.zone lo hi)
unfolding blocks_of
blocks-length lo hi r =
    let a = shown-length (λ d. clipped lo hi (start_of r d) (end_of r d)) (λ d. clipped-length lo hi (start_of r d) (end_of r d)) (filter r.on (local_dates r.zone lo hi)) in
    let b = filter-length r.on (local_dates r.zone lo hi) in
    omega arith

module _ (lo hi k : ℕ) (h : hi ≤ lo + k * day) where
  pub rule-length : (r : Rule) → RuleOk r → length (blocks_of lo hi r) ≤ k + 7
  rule-length r ok = let a = blocks-length lo hi r in let b = dates-length r.zone ok.sound lo hi k h in omega arith

  pub rules-length : (l : List Rule) → Every RuleOk l → length (blocks_of_all lo hi l) ≤ length l * (k + 7)
  unfolding joined
  rules-length [] ok = omega arith
  rules-length (r ∷ l) ok =
      let a = rule-length r ok.0 in let b = rules-length l ok.1 in
      rw length-append (more (length l) (length (blocks_of lo hi r)) (length (blocks_of_all lo hi l)) (k + 7) a b)
    where
      more : (n x y m : ℕ) → x ≤ m → y ≤ n * m → x + y ≤ suc n * m
      more n x y m p q = rw suc-mul (omega arith)

-- ---- a schedule without its holidays

abbrev pub bare : Schedule → Schedule
bare s = record { work = s.work; breaks = s.breaks; holidays = []; limit = s.limit }

-- ---- a schedule within the book's limits

pub record Few (s : Schedule) : Type 0 where
  pub works : length s.work ≤ 16
  pub pauses : length s.breaks ≤ 16
  pub free : length s.holidays ≤ 8

module _ (s : Schedule) (ok : OfRules RuleOk s) (few : Few s) where
  rules-off : length (off_rules s) ≤ 24
  rules-off = let a = few.pauses in let b = few.free in rw (length-append s.breaks (map holiday_rule s.holidays), length-map s.holidays holiday_rule) (omega arith)

  -- a window of at most seven days
  module _ (lo hi : ℕ) (h : hi ≤ lo + 7 * day) where
    pub work-seven : length (blocks_of_all lo hi s.work) ≤ 224
    work-seven = let a = rules-length lo hi 7 h s.work ok.0 in let b = few.works in omega arith

    pub off-seven : length (blocks_of_all lo hi (off_rules s)) ≤ 336
    off-seven = let a = rules-length lo hi 7 h (off_rules s) ok.1 in let b = rules-off in omega arith

    -- what is left
    pub working-seven : length (working s lo hi) ≤ most_blocks
    unfolding working
    working-seven =
        let a = left-length (blocks_of_all lo hi s.work) (blocks_of_all lo hi (off_rules s)) (all-nonempty lo hi s.work) in
        let b = work-seven in let c = off-seven in
        omega arith

  -- a window of at most 14 days, with holidays ignored, as `build` looks at one
  module _ (lo hi : ℕ) (h : hi ≤ lo + 14 * day) where
    pub work-fourteen : length (blocks_of_all lo hi s.work) ≤ 336
    work-fourteen = let a = rules-length lo hi 14 h s.work ok.0 in let b = few.works in omega arith

    pub breaks-fourteen : length (blocks_of_all lo hi s.breaks) ≤ 336
    breaks-fourteen = let a = rules-length lo hi 14 h s.breaks (every-apart RuleOk s.breaks (map holiday_rule s.holidays) ok.1).0 in let b = few.pauses in omega arith

    pub bare-fourteen : length (working (bare s) lo hi) ≤ most_blocks
    unfolding working
    bare-fourteen =
        let a = left-length (blocks_of_all lo hi s.work) (blocks_of_all lo hi s.breaks) (all-nonempty lo hi s.work) in
        let b = work-fourteen in let c = breaks-fourteen in
        let e : off_rules (bare s) ≡ s.breaks = append-nil s.breaks in
        rw e (omega arith)
