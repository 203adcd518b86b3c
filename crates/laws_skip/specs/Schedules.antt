-- Skipping changes nothing, for every schedule whose rules are sound, whatever the offsets: `between`, `add` and `sub` with skipping give the
-- answers of the plain walk, and the number of windows resolved keeps its two bounds.
use Rattle.std.specs.Prelude.{◌≡◌, refl, true, ℕ, zero, suc, ◌+◌, ◌*◌, ◌-◌, ◌≤◌, min}
use Rattle.std.proofs.Math.Path.{sym, ap}
use Rattle.std.proofs.Common.{◌∙◌, inl}
use Rattle.std.proofs.Math.Option.{none}
use native.Mathlib.Omega.{arith}
use Rattle.model.specs.Instant.{week}
use Rattle.model.specs.Working.{Schedule, blocks_of_all, working}
use Rattle.model.specs.Walk.{Way, on, back, at, reach, ahead, onward, backward, begun, time_from, time_between, search}
use Rattle.model.specs.Skip.{repeats, needed_between, any_time}
use Rattle.laws_blocks.specs.Lists.{Lists}
use Rattle.laws_blocks.specs.Members.{covers}
use Rattle.laws_blocks.specs.Left.{left-chain, chain-lists}
use Rattle.laws_blocks.specs.Move.{moves}
use Rattle.laws_blocks.specs.Turn.{seen_from, behind, onward-lists, backward-lists}
use Rattle.laws_demand3.specs.Windows.{RuleOk, OfRules, off_rules, all_in, all-nonempty}
use Rattle.laws_skip.specs.Steady.{WeeklyRules, repeats-week}
use Rattle.laws_skip.specs.WindowEnds.{Inside, lists-inside, onward-moved, backward-moved}
use Rattle.laws_skip.specs.Skips.{skip_search, skip_time, SearchAnswers, skip-in, time-skips, count-exact, needed-most}
use Rattle.laws_blocks.specs.Totals.{lists-most}
use Rattle.model.specs.Blocks.{total}

-- ---- the blocks of a window, whatever the rules

pub working-lists : (s : Schedule) (lo hi : ℕ) → lo ≤ hi → Lists (covers (working s lo hi)) lo hi (working s lo hi)
unfolding working
working-lists s lo hi h =
    let c = left-chain lo hi (blocks_of_all lo hi s.work) (blocks_of_all lo hi (off_rules s)) (all-nonempty lo hi s.work) (all-nonempty lo hi (off_rules s)) (all_in lo hi s.work) in
    chain-lists (covers (working s lo hi)) lo hi (working s lo hi) h c.0 c.1 (λ u a b. refl)

-- their time is no more than the window's length
pub working-most : (s : Schedule) (lo hi : ℕ) → lo ≤ hi → total (working s lo hi) ≤ hi - lo
working-most s lo hi h = lists-most (covers (working s lo hi)) lo hi (working-lists s lo hi h)

-- nor is the time between two instants more than the time between them
from-most : (s : Schedule) (n lo b : ℕ) → lo ≤ b → time_from n (working s) lo b ≤ b - lo
unfolding time_from
from-most s zero lo b h = omega arith
from-most s (suc n) lo b h =
    let hi = min (lo + week) b in
    let p = working-most s lo hi (omega arith) in
    let q = from-most s n hi b (omega arith) in
    omega arith

pub time-most : (s : Schedule) (a b : ℕ) → a ≤ b → time_between s a b ≤ b - a
time-most s a b h = from-most s (begun (b - a)) a b h

pub working-inside : (s : Schedule) (lo hi : ℕ) → lo ≤ hi → Inside lo hi (working s lo hi)
working-inside s lo hi h = lists-inside (covers (working s lo hi)) lo hi (working-lists s lo hi h)

-- as distances
pub ahead-inside : (w : Way) (s : Schedule) (t x y : ℕ) → x ≤ y → y ≤ reach w t → Inside x y (ahead w s t x y)
unfolding ahead
ahead-inside on s t x y h k =
    let W = covers (working s (t + x) (t + y)) in
    let e : t + x - t ≡ x = omega arith in
    let f : t + y - t ≡ y = omega arith in
    rw (e, f) at (lists-inside (seen_from W t) (t + x - t) (t + y - t) (onward-lists W t (t + x) (t + y) (omega arith) (working-lists s (t + x) (t + y) (omega arith))))
ahead-inside back s t x y h k =
    let W = covers (working s (t - y) (t - x)) in
    let e : t - (t - x) ≡ x = omega arith in
    let f : t - (t - y) ≡ y = omega arith in
    rw (e, f) at (lists-inside (behind W t) (t - (t - x)) (t - (t - y)) (backward-lists W t (t - y) (t - x) (omega arith) (working-lists s (t - y) (t - x) (omega arith))))

module _ (s : Schedule) (ok : OfRules RuleOk s) (weekly : WeeklyRules s) where
  -- where the skip test passes at the distance x, the window there is the one before, a week further
  pub ahead-week : (w : Way) (t x : ℕ) → week ≤ x → x + week ≤ reach w t → repeats s (at w t x) ≡ true → ahead w s t x (x + week) ≡ moves week (ahead w s t (x - week) x)
  unfolding ahead
  ahead-week on t x a b e =
      let r = repeats-week s ok weekly (t + x) e in
      let f : t + (x + week) ≡ t + x + week = omega arith in
      let g : t + x - week ≡ t + (x - week) = omega arith in
      ap (λ k. onward t (working s (t + x) k)) f ∙ ap (onward t) r.1
      ∙ onward-moved t week (t + x - week) (t + x) (working s (t + x - week) (t + x)) (omega arith) (working-inside s (t + x - week) (t + x) (omega arith))
      ∙ ap (λ k. moves week (onward t (working s k (t + x)))) g
  ahead-week back t x a b e =
      let r = repeats-week s ok weekly (t - x) e in
      let f : t - (x + week) ≡ t - x - week = omega arith in
      let g : t - x + week ≡ t - (x - week) = omega arith in
      ap (λ k. backward t (working s k (t - x))) f
      ∙ sym (backward-moved t week (t - x - week) (t - x) (working s (t - x - week) (t - x)) (omega arith) (working-inside s (t - x - week) (t - x) (omega arith)))
      ∙ ap (λ l. moves week (backward t l)) (sym r.1) ∙ ap (λ k. moves week (backward t (working s (t - x) k))) g

  -- ---- the answers

  -- `add` and `sub`, for a search limit of 14 days or more
  pub search-skipping : (w : Way) (t d : ℕ) → 2 * week ≤ s.limit
      → SearchAnswers (ahead w s t) (λ y. repeats s (at w t y)) (reach w t) d (skip_search (ahead w s t) (λ y. repeats s (at w t y)) s.limit (reach w t) d) (search w s t d)
  search-skipping w t d far = skip-in (ahead w s t) (λ y. repeats s (at w t y)) s.limit (reach w t) far (ahead-week w t) (ahead-inside w s t) d

  module _ (a b : ℕ) (h : a ≤ b) where
    border-week : (t : ℕ) → a + week ≤ t → t + week ≤ b → repeats s t ≡ true → working s t (t + week) ≡ moves week (working s (t - week) t)
    border-week t p q e = (repeats-week s ok weekly t e).1

    pub between-skipping : (skip_time (begun (b - a)) (working s) (repeats s) a b none).time ≡ time_between s a b
    between-skipping = time-skips (working s) (repeats s) a b h border-week (begun (b - a)) a none (omega arith) h (inl refl)

    pub between-exact : (skip_time (begun (b - a)) (working s) (repeats s) a b none).count ≡ needed_between s a b
    between-exact =
        let e : a + 0 ≡ a = omega arith in
        rw e at (count-exact (working s) (repeats s) a b h border-week (begun (b - a)) 0 none (omega arith) (inl e) (ahead on s a) 0 0)

    pub between-most : (skip_time (begun (b - a)) (working s) (repeats s) a b none).count ≤ begun (b - a)
    between-most =
        let e = between-exact in
        let m = needed-most (begun (b - a)) any_time (ahead on s a) (λ x. repeats s (a + x)) (b - a) 0 0 0 in
        omega arith
