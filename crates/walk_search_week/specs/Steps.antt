-- What a search in a window is asked, and what its answer means.
use Rattle.std.specs.Prelude.{◌≡◌, Bool, false, List, ℕ, ◌+◌, ◌*◌, ◌≤◌, ◌<◌, ◌^◌, length, Result, Ok, Err}
use Rattle.laws_blocks.specs.Members.{NonEmpty, Ends}
use Rattle.laws_blocks.specs.Move.{moves}
use Rattle.block_pairs.specs.Pairs.{pairs}
use Rattle.model.specs.Walk as walk
use Rattle.refusal.specs.declared.SearchError.{SearchError}
use Rattle.walk_distance.specs.Distances.{way_of, seen}
use Rattle.walk_search_week.specs.declared.WeekStep.{WeekStep}
use Rattle.walk_search_week.specs.declared.WeekStep.TheVariants as T

-- the first n pairs of l are blocks of a window of the length w; w and g more fit in 64 bits. On from the window's start, each block is of some length
-- and ends in the window
abbrev pub WindowBlocks : Bool → ℕ → ℕ → ℕ → List ℕ → Type 0
WindowBlocks back n w g l = (2 * n ≤ length l) × (w + g < 2 ^ 64) × (back ≡ false → NonEmpty (pairs n l) × Ends w (pairs n l))

-- what the definitions say of a search for d more of working time in these blocks, of which work last ended g before the window's near border
abbrev pub search_in_window : Bool → ℕ → ℕ → ℕ → ℕ → ℕ → List ℕ → walk.Step
search_in_window back n limit g w d l = walk.search_blocks limit (w + g) 0 d (moves g (seen (way_of back) w (pairs n l)))

-- what the answer says
abbrev pub week_step_is : WeekStep → walk.Step
week_step_is (T.Found z) = walk.found z
week_step_is (T.Left d m) = walk.left d m

-- the answer is what the definitions say: there is no work where a gap is too long
abbrev pub Looks : Result WeekStep SearchError → walk.Step → Type 0
Looks (Ok r) q = week_step_is r ≡ q
Looks (Err e) q = (e ≡ SearchError.NoWork) × (walk.gap ≡ q)

-- the time that is left to find
abbrev pub rest_of : WeekStep → ℕ
rest_of (T.Found z) = 0
rest_of (T.Left d m) = d

-- what a search says, its distances from c before
abbrev pub step_after : ℕ → walk.Step → walk.Step
step_after c (walk.found z) = walk.found (z + c)
step_after c walk.gap = walk.gap
step_after c (walk.left d m) = walk.left d (m + c)

-- what a search says, with k more left to find
abbrev pub with_left : ℕ → walk.Step → walk.Step
with_left k (walk.found z) = walk.found z
with_left k walk.gap = walk.gap
with_left k (walk.left d m) = walk.left (d + k) m
