-- Windows of seven and of fourteen days, and what is taken from work in one. Assumes nothing.
use Prim.Native.Nat.{ℕ, ◌+◌}
use mathlib.Core.Path.{◌≡◌, refl, ◌∙◌, ap}
use mathlib.Core.List.{List, [], ◌∷◌, ◌++◌, map, append_assoc}
use native.Mathlib.Omega.{arith}
use Rattle.model.specs.Basic.{joined}
use Rattle.model.specs.Blocks.{Block}
use Rattle.model.specs.Working.{Rule, Schedule, holiday_rule, blocks_of, blocks_of_all}
use Rattle.laws_demand3.specs.Windows.{off_rules}
use Rattle.instant.specs.declared.Instant.{Instant}
use Rattle.window_dates.specs.Windows.{Window}

pub window-longer : (lo hi : Instant) → Window 7 lo hi → Window 14 lo hi
window-longer lo hi w = let h = w.short in record { low = w.low; high = w.high; order = w.order; short = omega arith }

rules-append : (lo hi : ℕ) (l m : List Rule) → blocks_of_all lo hi l ++ blocks_of_all lo hi m ≡ blocks_of_all lo hi (l ++ m)
unfolding joined
rules-append lo hi [] m = refl
rules-append lo hi (r ∷ l) m =
    append_assoc (blocks_of lo hi r) (blocks_of_all lo hi l) (blocks_of_all lo hi m) ∙ ap (λ (t : List Block). blocks_of lo hi r ++ t) (rules-append lo hi l m)

-- what is taken from work: breaks, then holidays
pub off-is : (s : Schedule) (lo hi : ℕ) (p q : List Block) → p ≡ blocks_of_all lo hi s.breaks → q ≡ p ++ blocks_of_all lo hi (map holiday_rule s.holidays) → q ≡ blocks_of_all lo hi (off_rules s)
off-is s lo hi p q a b =
    b ∙ ap (λ (t : List Block). t ++ blocks_of_all lo hi (map holiday_rule s.holidays)) a ∙ rules-append lo hi s.breaks (map holiday_rule s.holidays)
