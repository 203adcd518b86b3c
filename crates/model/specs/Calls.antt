-- The calls, over signed numbers. Document 01, "Schedule and its answers"; "Refusals": "8; 9; the operation's own 6, 7 or 10".
use Rattle.std.specs.Prelude.{◌≡◌, List, ◌++◌, map, ℕ, ◌+◌, ◌*◌, ◌-◌, ◌≤◌, min, max, leb, ltb, length, drop, ℤ, if◌then◌else◌}
use Rattle.std.proofs.Math.Option.{Option, none, some}
use Rattle.model.specs.Basic.{given, joined}
use Rattle.model.specs.Instant.{instant_of, instant, duration_of, duration, negated}
use Rattle.model.specs.Answer.{Answer, gives, refuses, ◌>>=◌, or_refuse}
use Rattle.model.specs.Blocks.{Block}
use Rattle.model.specs.Working.{Schedule}
use Rattle.model.specs.Build.{build}
use Rattle.model.specs.Walk.{Way, on, back, at, begun, time_between, search, period, stretches}
use Rattle.model.specs.Skip.{needed_between, needed_search}

-- the numbers of an answer, and the least and the most windows where it reports them
pub record Reply : Type 0 where
  pub values : List ℤ
  pub windows : Option (ℕ × ℕ)

-- `between`, "turned round" where the second instant is the earlier
unfoldable pub between_call : Schedule → ℤ → ℤ → ℤ → ℤ → Answer Reply
between_call s a₁ a₂ b₁ b₂ =
    instant_of a₁ a₂ >>= λ a.
    instant_of b₁ b₂ >>= λ b.
    let lo = min a b in
    let hi = max a b in
    gives (record { values = duration (record { minus = ltb b a; size = time_between s lo hi }); windows = some (needed_between s lo hi, begun (hi - lo)) })

abbrev pub turned : Way → Way
turned on = back
turned back = on

unfoldable pub moved : Way → Schedule → ℕ → ℕ → Answer Reply
moved w s t d =
    search w s t d >>= λ x.
    gives (record { values = instant (at w t x); windows = some (needed_search w s t d x, begun x) })

-- `add` goes on and `sub` goes back; a negative duration goes the other way
unfoldable pub move_call : Way → Schedule → ℤ → ℤ → ℤ → ℤ → Answer Reply
move_call w s t₁ t₂ d₁ d₂ =
    instant_of t₁ t₂ >>= λ t.
    duration_of d₁ d₂ >>= λ d.
    if d.minus then (negated d >>= λ e. moved (turned w) s t e.size) else moved w s t d.size

abbrev pub ends : Way → ℕ → Block → List ℤ
ends on t p = instant (t + p.start) ++ instant (t + p.end)
ends back t p = instant (t - p.end) ++ instant (t - p.start)

-- `next_period` goes on and `previous_period` back
unfoldable pub period_call : Way → Schedule → ℤ → ℤ → Answer Reply
period_call w s t₁ t₂ =
    instant_of t₁ t₂ >>= λ t.
    period w s t >>= λ p.
    gives (record { values = ends w t p; windows = none })

-- the listing: how many stretches, and the lent numbers after it
pub record Listing : Type 0 where
  pub count : ℕ
  pub numbers : List ℤ

-- "four signed 64-bit numbers each: start second, nanoseconds, end second, nanoseconds"; "numbers behind the last stay"
unfoldable pub list_call : Schedule → ℤ → ℤ → ℤ → ℤ → List ℤ → Answer Listing
list_call s a₁ a₂ b₁ b₂ lent =
    instant_of a₁ a₂ >>= λ lo.
    instant_of b₁ b₂ >>= λ hi.
    let l = stretches s lo hi in
    or_refuse 10 0 (given (leb (4 * length l) (length lent))
    (record { count = length l; numbers = joined (map (λ (b : Block). instant b.start ++ instant b.end) l) ++ drop (4 * length l) lent }))

-- ---- the same from the bytes of book and pack: what `build` refuses comes first

abbrev pub between : List ℕ → List ℕ → ℤ → ℤ → ℤ → ℤ → Answer Reply
between book pack a₁ a₂ b₁ b₂ = build book pack >>= λ s. between_call s a₁ a₂ b₁ b₂

abbrev pub add : List ℕ → List ℕ → ℤ → ℤ → ℤ → ℤ → Answer Reply
add book pack t₁ t₂ d₁ d₂ = build book pack >>= λ s. move_call on s t₁ t₂ d₁ d₂

abbrev pub sub : List ℕ → List ℕ → ℤ → ℤ → ℤ → ℤ → Answer Reply
sub book pack t₁ t₂ d₁ d₂ = build book pack >>= λ s. move_call back s t₁ t₂ d₁ d₂

abbrev pub next_period : List ℕ → List ℕ → ℤ → ℤ → Answer Reply
next_period book pack t₁ t₂ = build book pack >>= λ s. period_call on s t₁ t₂

abbrev pub previous_period : List ℕ → List ℕ → ℤ → ℤ → Answer Reply
previous_period book pack t₁ t₂ = build book pack >>= λ s. period_call back s t₁ t₂

abbrev pub list : List ℕ → List ℕ → ℤ → ℤ → ℤ → ℤ → List ℤ → Answer Listing
list book pack a₁ a₂ b₁ b₂ lent = build book pack >>= λ s. list_call s a₁ a₂ b₁ b₂ lent

-- ---- what a call promises of its answer: its numbers, its count of windows, the lent numbers afterwards

-- an answer's numbers, without the count of windows; or the refusal's number and place
abbrev pub said : Answer Reply → Answer (List ℤ)
said a = a >>= λ (r : Reply). gives r.values

abbrev least_in : Option (ℕ × ℕ) → ℕ
least_in none = 0
least_in (some b) = b.0

abbrev most_in : Option (ℕ × ℕ) → ℕ
most_in none = 0
most_in (some b) = b.1

-- "at least one for each window that may not be skipped"
abbrev pub least_of : Answer Reply → ℕ
least_of (gives r) = least_in r.windows
least_of (refuses n p) = 0

-- "at most one for each begun seven days from start to answer"
abbrev pub most_of : Answer Reply → ℕ
most_of (gives r) = most_in r.windows
most_of (refuses n p) = 0

-- a count of windows keeps both bounds. Document 01 asks for the bounds alone; the code resolves just the windows that may not be skipped
pub record Windows (count : ℕ) (a : Answer Reply) : Type 0 where
  pub least : count ≡ least_of a
  pub most : count ≤ most_of a

-- "It returns how many stretches"
abbrev pub stretch_count : Answer Listing → Answer ℕ
stretch_count a = a >>= λ (l : Listing). gives l.count

-- the lent numbers afterwards: those of the answer; where it refuses, "all lent memory is left alone"
abbrev pub numbers_after : Answer Listing → List ℤ → List ℤ
numbers_after (gives l) lent = l.numbers
numbers_after (refuses n p) lent = lent

unfoldable pub calls : Unit {0}
unfolding between_call moved move_call period_call list_call
calls = tt
