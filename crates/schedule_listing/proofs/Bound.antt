-- How many stretches a schedule has at most. Assumes nothing.
use mathlib.Core.Path.{◌≡◌, sym, ◌∙◌}
use mathlib.Core.Bool.{true, false}
use mathlib.Core.List.{List, map}
use Prim.Native.Nat.{ℕ, zero, suc, ◌+◌, ◌*◌, ◌-◌, ◌/◌, ◌≤◌, ◌<◌, min}
use native.Mathlib.Nat.{zero-mul, suc-mul, mul-le-mul_right, mul-le-mul}
use native.Mathlib.Omega.{arith}
use lib.Dec.{leb}
use lib.IntN.{ℤ}
use lib.ListN.{length, take, length-append, length-map, length-take}
use borrow.Author.Tests.{leb-true, leb-false, le-leb, lt-leb}
use Rattle.laws_base.specs.Test.{by-test}
use Rattle.model.specs.Instant.{second, day, week, week_seconds}
use Rattle.model.specs.Blocks.{Block}
use Rattle.model.specs.Working as model
use Rattle.model.specs.Working.{working, blocks_of_all, holiday_rule}
use Rattle.model.specs.Walk.{begun, listed, stretches}
use Rattle.laws_demand3.specs.Windows.{RuleOk, OfRules, off_rules, all-nonempty}
use Rattle.laws_blocks.specs.Count672.{merged-length, left-length}
use Rattle.laws_skip.specs.Counts.{rules-length}
use Rattle.rule.specs.Rules.{rule_is, holidays_is, schedule_is, ScheduleFits}
use Rattle.rule.specs.declared.Schedule.{Schedule}
use Rattle.walk_list_week.specs.Stretched.{stored}

-- ---- the blocks of windows

module _ (work : ℕ → ℕ → List Block) (m : ℕ) (few : (lo hi : ℕ) → hi ≤ lo + 7 * day → length (work lo hi) ≤ m) where
  listed-few : (n lo b : ℕ) → length (listed n work lo b) ≤ n * m
  unfolding listed
  listed-few zero lo b = omega arith
  listed-few (suc n) lo b =
      let hi = min (lo + week) b in
      let x = few lo hi (omega arith) in
      let y = listed-few n hi b in
      let e = length-append (work lo hi) (listed n work hi b) in
      let f = suc-mul n m in
      omega arith

-- a rule shows at most 14 dates in a window
working-few : (s : model.Schedule) → OfRules RuleOk s → (r lo hi : ℕ) → length s.work + length s.breaks + length s.holidays ≤ r → hi ≤ lo + 7 * day → length (working s lo hi) ≤ 14 * r
unfolding working
working-few s ok r lo hi k h =
    let x = rules-length lo hi 7 h s.work ok.0 in
    let y = rules-length lo hi 7 h (off_rules s) ok.1 in
    let e = length-append s.breaks (map holiday_rule s.holidays) in
    let f = length-map s.holidays holiday_rule in
    let g = left-length (blocks_of_all lo hi s.work) (blocks_of_all lo hi (off_rules s)) (all-nonempty lo hi s.work) in
    omega arith

stretches-few : (s : model.Schedule) → OfRules RuleOk s → (r lo hi : ℕ) → length s.work + length s.breaks + length s.holidays ≤ r → length (stretches s lo hi) ≤ begun (hi - lo) * (14 * r)
stretches-few s ok r lo hi k =
    let x = merged-length (listed (begun (hi - lo)) (working s) lo hi) in
    let y = listed-few (working s) (14 * r) (λ a b h. working-few s ok r a b k h) (begun (hi - lo)) lo hi in
    omega arith

-- ---- the rules of the code's schedule

-- as many as the code counts, at most
rules-few : (b p : List ℕ) (s : Schedule) → length (schedule_is b p s).work + length (schedule_is b p s).breaks + length (schedule_is b p s).holidays ≤ s.works + s.pauses + s.closings
rules-few b p s =
    let x = length-map (take s.works s.work) (rule_is p) in let x' = length-take s.works s.work in
    let y = length-map (take s.pauses s.breaks) (rule_is p) in let y' = length-take s.pauses s.breaks in
    let z = length-map (take s.closings s.closed) (holidays_is b p) in let z' = length-take s.closings s.closed in
    omega arith

pub listing-few : (b p : List ℕ) (s : Schedule) → ScheduleFits b p s → (lo hi k : ℕ) → begun (hi - lo) * (14 * (s.works + s.pauses + s.closings)) ≤ k
    → length (stretches (schedule_is b p s) lo hi) ≤ k
listing-few b p s f lo hi k h = let x = stretches-few (schedule_is b p s) f.well.ok (s.works + s.pauses + s.closings) lo hi (rules-few b p s) in omega arith

-- ---- numbers

-- windows that are begun up to a span of so many seconds
windows-few : (x d : ℕ) → x < (d + 1) * second → begun x ≤ d / week_seconds + 1
windows-few x d h = omega arith

pub none-begun : (x m : ℕ) → x ≡ 0 → begun x * m ≤ 0
none-begun x m e = let p : begun x ≡ 0 = omega arith in let q = zero-mul m in rw p (omega arith)

pub some-begun : (x d m : ℕ) → x < (d + 1) * second → begun x * m ≤ (d / week_seconds + 1) * m
some-begun x d m h = mul-le-mul_right m (windows-few x d h)

pub product-fits : (w m : ℕ) → w ≤ 2000000 → m ≤ 560 → w * m ≤ 1120000000
product-fits w m h k = mul-le-mul h k

-- ---- room

-- for k stretches, and so for l
pub room-sure : (l k n : ℕ) → l ≤ k → k ≤ n / 4 → true ≡ leb (4 * l) n
room-sure l k n h g = sym (le-leb (4 * l) n (omega arith))

-- for those that were counted, which wrote nothing
pub room-counted : (c : ℕ) (l : List Block) (e : List ℤ) {o : List ℤ} → c ≡ length l → o ≡ stored false 0 l e → (leb c (length e / 4) ≡ leb (4 * length l) (length e)) × (o ≡ e)
unfolding stored
room-counted c l e h g = (
  by-test (leb c (length e / 4))
      (λ t. let x = leb-true c (length e / 4) t in t ∙ sym (le-leb (4 * length l) (length e) (omega arith)))
      (λ t. let x = leb-false c (length e / 4) t in t ∙ sym (lt-leb (4 * length l) (length e) (omega arith))),
  g,
)
