-- The walk along a schedule and its answers, over instants in range. Document 01, "Schedule and its answers"; schedule.rs `between`, `forward`,
-- `backward`, `next_period`, `previous_period`. Every window is resolved here: that skipping changes nothing is a law.
-- A search goes on from t or back from it. All its numbers are distances from t, so that both ways are one definition.
use Rattle.std.specs.Prelude.{◌||◌, List, [], ◌∷◌, ◌++◌, map, ℕ, zero, suc, ◌+◌, ◌-◌, ◌/◌, min, leb, ltb, eqb, reverse, if◌then◌else◌}
use Rattle.model.specs.Instant.{week, first_instant, last_instant}
use Rattle.model.specs.Answer.{Answer, gives, refuses}
use Rattle.model.specs.Blocks.{Block, block, merged, total}
use Rattle.model.specs.Working.{Schedule, working}

-- the windows begun up to the distance x. "Windows are seven days from the starting instant."
abbrev pub begun : ℕ → ℕ
begun x = (x + (week - 1)) / week

-- ---- between

-- the working time of n windows from lo on, the last one ending at b
unfoldable pub time_from : ℕ → (ℕ → ℕ → List Block) → ℕ → ℕ → ℕ
time_from zero work lo b = 0
time_from (suc n) work lo b = let hi = min (lo + week) b in total (work lo hi) + time_from n work hi b

-- the working time from a to b, for a at or before b
abbrev pub time_between : Schedule → ℕ → ℕ → ℕ
time_between s a b = time_from (begun (b - a)) (working s) a b

-- ---- the two ways of a search

pub data Way : Type 0 where
  on back : Way

-- the instant at a distance
abbrev pub at : Way → ℕ → ℕ → ℕ
at on t x = t + x
at back t x = t - x

-- the distance of the range's end
abbrev pub reach : Way → ℕ → ℕ
reach on t = last_instant - t
reach back t = t - first_instant

-- blocks as distances from t, nearest first
unfoldable pub onward : ℕ → List Block → List Block
onward t l = map (λ (b : Block). block (b.start - t) (b.end - t)) l

unfoldable pub backward : ℕ → List Block → List Block
backward t l = map (λ (b : Block). block (t - b.end) (t - b.start)) (reverse l)

-- working time between two distances
unfoldable pub ahead : Way → Schedule → ℕ → ℕ → ℕ → List Block
ahead on s t x y = onward t (working s (t + x) (t + y))
ahead back s t x y = backward t (working s (t - y) (t - x))

-- ---- add and sub

-- what a window leaves: the distance that answers, a gap that is too long, or time left to find with the distance where work last ended
pub data Step : Type 0 where
  found : ℕ → Step
  gap : Step
  left : ℕ → ℕ → Step

-- look for d more of working time in the blocks of a window that ends at y. "A search refuses only when a gap is strictly longer" than the limit
unfoldable pub search_blocks : ℕ → ℕ → ℕ → ℕ → List Block → Step
search_blocks limit y last d [] = if ltb limit (y - last) then gap else left d last
search_blocks limit y last d (b ∷ l) =
    let n = b.end - b.start in
    let r = search_blocks limit y b.end (d - n) l in
    if ltb limit (b.start - last) then gap else
    if leb d n then found (b.start + d) else r

-- n windows from the distance x on. "A search gives 7 if it meets the range's end first, 6 if the gap to that end already exceeds the limit."
unfoldable pub search_from : ℕ → (ℕ → ℕ → List Block) → ℕ → ℕ → ℕ → ℕ → ℕ → Answer ℕ
search_from zero look limit end x last d = refuses 7 0
search_from (suc n) look limit end x last d =
    let y = min (x + week) end in
    elim (search_blocks limit y last d (look x y)) [
      | found z ↦ gives z
      | gap ↦ refuses 6 0
      | left e l ↦ search_from n look limit end y l e
    ]

-- the distance at which d of working time is spent, in a range that ends at the given distance
unfoldable pub search_in : (ℕ → ℕ → List Block) → ℕ → ℕ → ℕ → Answer ℕ
search_in look limit end d = if eqb d 0 then gives 0 else search_from (begun end) look limit end 0 0 d

abbrev pub search : Way → Schedule → ℕ → ℕ → Answer ℕ
search w s t d = search_in (ahead w s t) s.limit (reach w t) d

-- ---- next and previous

-- nothing so far, a period that may go on, one that has ended, or a first block too far off
pub data PeriodSoFar : Type 0 where
  nothing : PeriodSoFar
  growing : ℕ → ℕ → PeriodSoFar
  ended : ℕ → ℕ → PeriodSoFar
  too_far : PeriodSoFar

unfoldable pub period_in : ℕ → PeriodSoFar → List Block → PeriodSoFar
period_in limit h [] = h
period_in limit nothing (b ∷ l) = let r = period_in limit (growing b.start b.end) l in if ltb limit b.start then too_far else r
period_in limit (growing f e) (b ∷ l) = let r = period_in limit (growing f b.end) l in if eqb b.start e then r else ended f e
period_in limit (ended f e) (b ∷ l) = ended f e
period_in limit too_far (b ∷ l) = too_far

-- "are cut to the search limit"
abbrev pub capped : ℕ → ℕ → ℕ → Block
capped limit f e = block f (min e (f + limit))

abbrev pub at_range_end : ℕ → PeriodSoFar → Answer Block
at_range_end limit nothing = refuses 7 0
at_range_end limit (growing f e) = gives (capped limit f e)
at_range_end limit (ended f e) = gives (capped limit f e)
at_range_end limit too_far = refuses 6 0

unfoldable pub period_from : ℕ → (ℕ → ℕ → List Block) → ℕ → ℕ → ℕ → PeriodSoFar → Answer Block
period_from zero look limit end x h = at_range_end limit h
period_from (suc n) look limit end x h =
    let y = min (x + week) end in
    elim (period_in limit h (look x y)) [
      | nothing ↦ (let r = period_from n look limit end y nothing in if ltb limit y then refuses 6 0 else r)
      | growing f e ↦ (let r = period_from n look limit end y (growing f e) in if ltb e y || leb limit (e - f) then gives (capped limit f e) else r)
      | ended f e ↦ gives (capped limit f e)
      | too_far ↦ refuses 6 0
    ]

-- the distances of the nearest period
abbrev pub period : Way → Schedule → ℕ → Answer Block
period w s t = period_from (begun (reach w t)) (ahead w s t) s.limit (reach w t) 0 nothing

-- ---- the listing

-- the blocks of n windows from lo on, the last one ending at b
unfoldable pub listed : ℕ → (ℕ → ℕ → List Block) → ℕ → ℕ → List Block
listed zero work lo b = []
listed (suc n) work lo b = let hi = min (lo + week) b in work lo hi ++ listed n work hi b

-- "walks windows from lo, skips none, joins pieces that touch at a border"; "all maximal stretches in [lo, hi)"
abbrev pub stretches : Schedule → ℕ → ℕ → List Block
stretches s lo hi = merged (listed (begun (hi - lo)) (working s) lo hi)

unfoldable pub walks : Unit {0}
unfolding time_from onward backward ahead search_blocks search_from search_in period_in period_from listed
walks = tt
