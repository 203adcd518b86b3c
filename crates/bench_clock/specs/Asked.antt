-- What the functions that are timed leave in the lent numbers, by the definitions of the calls.
use Rattle.std.specs.Prelude.{◌≡◌, Bool, List, [], ◌∷◌, ℕ, zero, suc, ◌+◌, ◌/◌, eqb, ltb, ℤ, pos, length, get_or, set, take, Result, if◌then◌else◌}
use Rattle.model.specs.Answer.{Answer, gives, refuses}
use Rattle.model.specs.Build.{build}
use Rattle.model.specs.Calls.{between_call, move_call, period_call, list_call, said, numbers_after}
use Rattle.model.specs.Hardest.{hardest}
use Rattle.model.specs.Instant.{second}
use Rattle.model.specs.Walk.{on, back}
use Rattle.model.specs.Working.{Schedule}
use Rattle.rule.specs.Rules.{schedule_is}
use Rattle.rule.specs.declared.Schedule as rule
use Rattle.walk_distance.specs.Distances.{way_of}
use Rattle.answer_numbers.specs.Outcomes.{written}
use Rattle.refusal.specs.Answered.{answer_of}
use Rattle.refusal.specs.declared.Refused.{Refused}

-- the numbers themselves
abbrev pub numbers_are : List ℤ → List ℤ
numbers_are l = l

-- the numbers of an answer, or the number and place of its refusal
abbrev pub reply_is : Result (List ℤ) Refused → Answer (List ℤ)
reply_is r = answer_of numbers_are r

-- the answer to a question, by its kind
unfoldable pub answer_of_kind : ℕ → Schedule → ℤ → ℤ → ℤ → ℤ → Answer (List ℤ)
answer_of_kind kind s a b c d =
    if eqb kind 0 then said (between_call s a b c d) else
    if eqb kind 1 then said (move_call on s a b c d) else
    if eqb kind 2 then said (move_call back s a b c d) else
    if eqb kind 3 then said (period_call on s a b) else said (period_call back s a b)

-- an answer's numbers, or its refusal's
abbrev pub written_at : ℕ → Answer (List ℤ) → List ℤ → List ℤ
written_at i (gives l) e = written i l e
written_at i (refuses n p) e = set e i (pos n)

-- the question at i with its answer in its place
unfoldable pub with_answer : ℕ → Schedule → ℕ → List ℤ → List ℤ
with_answer kind s i e =
    written_at i (answer_of_kind kind s (get_or e i (pos 0)) (get_or e (i + 1) (pos 0)) (get_or e (i + 2) (pos 0)) (get_or e (i + 3) (pos 0))) e

-- so many questions from i on, one after the other
unfoldable pub groups_from : ℕ → Schedule → ℕ → ℕ → List ℤ → List ℤ
groups_from kind s zero i e = e
groups_from kind s (suc n) i e = groups_from kind s n (i + 4) (with_answer kind s i e)

-- all questions
abbrev pub groups : ℕ → Schedule → List ℤ → List ℤ
groups kind s e = groups_from kind s (length e / 4) 0 e

-- of a book: one that is refused changes nothing
abbrev pub groups_of : ℕ → Answer Schedule → List ℤ → List ℤ
groups_of kind (gives s) e = groups kind s e
groups_of kind (refuses n p) e = e

-- the search limit of a schedule in seconds, or the refusal's number
abbrev pub limit_in : Answer Schedule → ℕ
limit_in (gives s) = s.limit / second
limit_in (refuses n p) = n

-- of the first n bytes of a book
unfoldable pub limit_of : List ℕ → List ℕ → ℕ → ℕ
limit_of book pack n = limit_in (build (take n book) pack)

-- the lent numbers after so many listings
unfoldable pub listed_often : ℕ → Schedule → ℤ → ℤ → ℤ → ℤ → List ℤ → List ℤ
listed_often zero s a b c d e = e
listed_often (suc n) s a b c d e = listed_often n s a b c d (numbers_after (list_call s a b c d e) e)

-- of a book: one that is refused changes nothing
abbrev pub listed_of : ℕ → Answer Schedule → ℤ → ℤ → ℤ → ℤ → List ℤ → List ℤ
listed_of n (gives s) a b c d e = listed_often n s a b c d e
listed_of n (refuses m p) a b c d e = e

-- an answer over the first lent numbers; fewer than four stay as they are
unfoldable pub at_front : Answer (List ℤ) → List ℤ → List ℤ
at_front r e = if ltb (length e) 4 then e else written_at 0 r e

-- ---- what each function promises

-- r is the answer of `between`
abbrev pub IsTime : List ℕ → List ℕ → rule.Schedule → ℤ → ℤ → ℤ → ℤ → Result (List ℤ) Refused → Type 0
IsTime book pack s a b c d r = reply_is r ≡ said (between_call (schedule_is book pack s) a b c d)

-- r is the answer of `add` or `sub`
abbrev pub IsMove : List ℕ → List ℕ → rule.Schedule → Bool → ℤ → ℤ → ℤ → ℤ → Result (List ℤ) Refused → Type 0
IsMove book pack s is_back a b c d r = reply_is r ≡ said (move_call (way_of is_back) (schedule_is book pack s) a b c d)

-- r is the next or the previous period
abbrev pub IsPeriod : List ℕ → List ℕ → rule.Schedule → Bool → ℤ → ℤ → Result (List ℤ) Refused → Type 0
IsPeriod book pack s is_back a b r = reply_is r ≡ said (period_call (way_of is_back) (schedule_is book pack s) a b)

-- the question at i has its answer in its place
abbrev pub AnsweredAt : List ℕ → List ℕ → rule.Schedule → ℕ → ℕ → List ℤ → List ℤ → Type 0
AnsweredAt book pack s kind i old new = new ≡ with_answer kind (schedule_is book pack s) i old

-- all questions have their answers in their places
abbrev pub AllAnswered : List ℕ → List ℕ → rule.Schedule → ℕ → List ℤ → List ℤ → Type 0
AllAnswered book pack s kind old new = new ≡ groups kind (schedule_is book pack s) old

-- the same from a book and a pack
abbrev pub BookAnswered : List ℕ → List ℕ → ℕ → List ℤ → List ℤ → Type 0
BookAnswered book pack kind old new = new ≡ groups_of kind (build book pack) old

-- the lent numbers hold what so many listings leave in them
abbrev pub ListsOften : List ℕ → List ℕ → rule.Schedule → ℕ → ℤ → ℤ → ℤ → ℤ → List ℤ → List ℤ → Type 0
ListsOften book pack s times a b c d old new = new ≡ listed_often times (schedule_is book pack s) a b c d old

-- the same from a book and a pack
abbrev pub ListsOf : List ℕ → List ℕ → ℕ → ℤ → ℤ → ℤ → ℤ → List ℤ → List ℤ → Type 0
ListsOf book pack times a b c d old new = new ≡ listed_of times (build book pack) a b c d old

-- r is the hardest stretch of a log
abbrev pub IsHardest : List ℕ → List ℕ → ℤ → ℤ → List ℤ → ℤ → Result (List ℤ) Refused → Type 0
IsHardest book pack a b log width r = reply_is r ≡ said (hardest book pack a b log width)

-- the first lent numbers are
abbrev pub HardestWritten : List ℕ → List ℕ → ℤ → ℤ → List ℤ → ℤ → List ℤ → List ℤ → Type 0
HardestWritten book pack a b log width old new = new ≡ at_front (said (hardest book pack a b log width)) old
