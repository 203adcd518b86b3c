-- The hardest stretch of a pump's log. Document 02, request 2. A log is pairs of signed numbers, offset and length in whole seconds, from a given instant.
use Rattle.std.specs.Prelude.{Bool, true, false, not, ◌&&◌, List, [], ◌∷◌, ◌++◌, map, ℕ, ◌+◌, ◌*◌, min, max, leb, eqb, ℤ, nat_abs, length, if◌then◌else◌}
use Rattle.std.proofs.Math.Option.{none}
use Rattle.model.specs.Basic.{given, is_in, filter, sum, maximum}
use Rattle.model.specs.Instant.{second, last_instant, is_below_0, instant_of, instant, duration}
use Rattle.model.specs.Answer.{Answer, gives, ◌>>=◌, or_refuse}
use Rattle.model.specs.Blocks.{Block, block}
use Rattle.model.specs.Working.{Schedule}
use Rattle.model.specs.Build.{build}
use Rattle.model.specs.Walk.{time_between}
use Rattle.model.specs.Calls.{Reply}

-- ---- the log

-- "offsets at least 0 from a given instant, lengths at least 1, sorted by offset, without overlap": a run where the one before it ends e seconds after
-- the instant t. Its end is not "past the last instant"
abbrev pub is_run : ℕ → ℕ → ℤ → ℤ → Bool
is_run t e offset long =
    not (is_below_0 offset) && (leb e (nat_abs offset) && (not (is_below_0 long) && (leb 1 (nat_abs long) &&
    leb (t + (nat_abs offset + nat_abs long) * second) last_instant)))

-- the numbers are runs, each behind the one before it. "log malformed (an odd number of numbers too)"
unfoldable pub are_runs : ℕ → ℕ → List ℤ → Bool
are_runs t e [] = true
are_runs t e (offset ∷ []) = false
are_runs t e (offset ∷ long ∷ l) = let r = are_runs t (nat_abs offset + nat_abs long) l in if is_run t e offset long then r else false

-- the runs from one instant to another
unfoldable pub runs_of : ℕ → List ℤ → List Block
runs_of t [] = []
runs_of t (offset ∷ []) = []
runs_of t (offset ∷ long ∷ l) = block (t + nat_abs offset * second) (t + (nat_abs offset + nat_abs long) * second) ∷ runs_of t l

-- "run logs of up to 4,096 runs", two numbers each
abbrev pub most_numbers : ℕ
most_numbers = 8192

-- what makes a log from the instant t
abbrev pub is_log : ℕ → List ℤ → Bool
is_log t log = leb (length log) most_numbers && are_runs t 0 log

-- the runs of a log. "11, log malformed (an odd number of numbers too), over its count or with a run's end past the last instant"
abbrev pub log_of : ℕ → List ℤ → Answer (List Block)
log_of t log = or_refuse 11 0 (given (is_log t log) (runs_of t log))

-- ---- windows

-- 400 days in seconds
abbrev pub most_width : ℕ
most_width = 34560000

-- "For a width of 1 second to 400 days in whole seconds"
abbrev pub is_width : ℤ → Bool
is_width w = not (is_below_0 w) && is_in 1 most_width (nat_abs w)

-- in nanoseconds. "12, width outside its limits"
abbrev pub width_of : ℤ → Answer ℕ
width_of w = or_refuse 12 0 (given (is_width w) (nat_abs w * second))

-- "A window ends at the last instant if it would pass it"
abbrev pub window_from : ℕ → ℕ → Block
window_from width start = block start (min (start + width) last_instant)

-- "each part of a run counts what between gives for it"; of a run that has no part in the window the end would come before the start, and nothing counts
abbrev pub part_time : Schedule → Block → Block → ℕ
part_time s window r = time_between s (max window.start r.start) (min window.end r.end)

-- "running time that was also working time"
abbrev pub running_time : Schedule → List Block → Block → ℕ
running_time s runs window = sum (map (part_time s window) runs)

-- a window's time, and its start
pub record Stretch : Type 0 where
  pub time : ℕ
  pub start : ℕ

-- "look at each window of that width that starts at a run's start"
abbrev pub windows_of : Schedule → ℕ → List Block → List Stretch
windows_of s width runs =
    map (λ (r : Block). record { time = running_time s runs (window_from width r.start); start = r.start }) runs

-- ---- the hardest

-- the first, or h of none
abbrev pub first_or : Stretch → List Stretch → Stretch
first_or h [] = h
first_or h (x ∷ l) = x

-- "the most .., and the start of the earliest such window"; "An empty log reports zero at the given instant"
abbrev pub hardest_of : ℕ → List Stretch → Stretch
hardest_of t l =
    let most = maximum (map (λ (h : Stretch). h.time) l) in
    first_or (record { time = 0; start = t }) (filter (λ (h : Stretch). eqb h.time most) l)

-- the duration, then the window's start; 11 comes after 8, and 12 after 11
unfoldable pub hardest_call : Schedule → ℤ → ℤ → List ℤ → ℤ → Answer Reply
hardest_call s t₁ t₂ log width =
    instant_of t₁ t₂ >>= λ t.
    log_of t log >>= λ runs.
    width_of width >>= λ w.
    let h = hardest_of t (windows_of s w runs) in
    gives (record { values = duration (record { minus = false; size = h.time }) ++ instant h.start; windows = none })

-- the same from the bytes of book and pack: what `build` refuses comes first
abbrev pub hardest : List ℕ → List ℕ → ℤ → ℤ → List ℤ → ℤ → Answer Reply
hardest book pack t₁ t₂ log width = build book pack >>= λ s. hardest_call s t₁ t₂ log width

unfoldable pub hardests : Unit {0}
unfolding are_runs runs_of hardest_call
hardests = tt
