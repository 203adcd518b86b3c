-- What the answers of the calls say: document 01's numbers for each case, as the definitions' answers list them. The contracts are equations with
-- `between`, `add` and `sub` of the definitions (Calls.antt of crate `model`). Those are the very calls of which theorem `demand-3` speaks
-- (proofs/Holds.antt of crate `laws_demand3`): so demand 3 holds of what the code answers.
use Rattle.std.specs.Prelude.{◌≡◌, Bool, List, [], ◌∷◌, ℕ, ℤ, Result, Ok, Err}
use Rattle.model.specs.Answer.{Answer, ◌>>=◌}
use Rattle.model.specs.Instant.{instant, duration}
use Rattle.model.specs.Walk.{at}
use Rattle.model.specs.Build.{build}
use Rattle.model.specs.Calls.{Reply, between_call, moved, move_call, said, Windows}
use Rattle.walk_distance.specs.Distances.{way_of}
use Rattle.rule.specs.declared.Schedule.{Schedule}
use Rattle.rule.specs.Rules.{schedule_is}
use Rattle.refusal.specs.declared.Refused.{Refused}
use Rattle.refusal.specs.Answered.{answer_of}
use Rattle.schedule.specs.declared.Counted.{Counted}

-- ---- the numbers of an answer, and its count of windows; a refusal has none

abbrev pub values_of : Counted → List ℤ
values_of c = c.secs ∷ c.nanos ∷ []

abbrev pub counted_is : Result Counted Refused → Answer (List ℤ)
counted_is r = answer_of values_of r

abbrev pub windows_of : Result Counted Refused → ℕ
windows_of (Ok c) = c.windows
windows_of (Err r) = 0

-- ---- answers as the definitions reply

-- the values v and the count of windows c are those of the definitions' reply d: the values are equal, and the count keeps the bounds
abbrev pub KeepsReply : Answer (List ℤ) → ℕ → Answer Reply → Type 0
KeepsReply v c d = (v ≡ said d) × Windows c d

-- an answer of `between`, `add` or `sub` is as the definitions' reply d
abbrev pub CountedAs : Result Counted Refused → Answer Reply → Type 0
CountedAs r d = KeepsReply (counted_is r) (windows_of r) d

-- ---- what the definitions reply

-- a duration's numbers, by its sign and its size
abbrev pub lasting : Bool → ℕ → List ℤ
lasting minus d = duration (record { minus = minus; size = d })

-- the numbers of the instant at the distance x from t, on or back
abbrev pub instant_at : Bool → ℕ → ℕ → List ℤ
instant_at back t x = instant (at (way_of back) t x)

-- `between` of a schedule that is built
abbrev pub between_in : List ℕ → List ℕ → Schedule → ℤ → ℤ → ℤ → ℤ → Answer Reply
between_in book pack s a₁ a₂ b₁ b₂ = between_call (schedule_is book pack s) a₁ a₂ b₁ b₂

-- the instant that is the working time d on from t, or back from it
abbrev pub moved_in : Bool → List ℕ → List ℕ → Schedule → ℕ → ℕ → Answer Reply
moved_in back book pack s t d = moved (way_of back) (schedule_is book pack s) t d

-- `add` of a schedule that is built, or `sub`
abbrev pub move_in : Bool → List ℕ → List ℕ → Schedule → ℤ → ℤ → ℤ → ℤ → Answer Reply
move_in back book pack s t₁ t₂ d₁ d₂ = move_call (way_of back) (schedule_is book pack s) t₁ t₂ d₁ d₂

-- `add` of a book and a pack, or `sub`
abbrev pub move_of : Bool → List ℕ → List ℕ → ℤ → ℤ → ℤ → ℤ → Answer Reply
move_of back book pack t₁ t₂ d₁ d₂ = build book pack >>= λ s. move_call (way_of back) s t₁ t₂ d₁ d₂
