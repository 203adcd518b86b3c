-- Queries and answers as numbers. The sentences are those of the header hirgwamo.h, "Many queries of one book and pack".
use Rattle.std.specs.Prelude.{◌≡◌, Bool, false, not, ◌||◌, List, [], ◌∷◌, ◌++◌, ℕ, zero, suc, ◌+◌, ◌*◌, ◌/◌, ◌%◌, ◌^◌, ◌<◌, eqb, ltb, ℤ, pos, negsuc, length, get_or, take, if◌then◌else◌, Result, Ok, Err}
use Rattle.std.proofs.Math.Option.{Option, none, some}
use Rattle.model.specs.Answer.{Answer, gives, refuses, ◌>>=◌}
use Rattle.model.specs.Build.{build}
use Rattle.model.specs.Calls.{Reply, least_of}
use Rattle.model.specs.Lines.{Query, ask_between, ask_move, ask_period, reply_to}
use Rattle.model.specs.Walk.{on, back}
use Rattle.model.specs.Working as model
use Rattle.laws_skip.specs.Books.{BuiltWell}
use Rattle.rule.specs.declared.Schedule.{Schedule}
use Rattle.rule.specs.Rules.{schedule_is, ScheduleFits}
use Rattle.walk_distance.specs.Distances.{way_of}
use Rattle.answer_numbers.specs.Outcomes.{Outcome, too_short, written, EndsAs}
use Rattle.refusal.specs.declared.Refused.{Refused}
use Rattle.refusal.specs.Refused.{number_of}
use Rattle.schedule_periods.specs.Replies.{period_numbers}
use Rattle.query_numbers.specs.declared.AnyAnswer.{AnyAnswer}
use Rattle.query_numbers.specs.declared.AnyAnswer.TheVariants as A
use Rattle.query_numbers.specs.declared.Unanswered.{Unanswered}
use Rattle.query_numbers.specs.declared.Unanswered.TheVariants as U

-- ---- queries

-- "A query is five numbers: its kind (0 between, 1 add, 2 sub, 3 next, 4 previous), an instant, and the other instant, a duration, or two zeros"
unfoldable pub query_for : ℤ → ℤ → ℤ → ℤ → ℤ → Option Query
query_for (negsuc n) a b c d = none
query_for (pos n) a b c d =
    if eqb n 0 then some (ask_between a b c d) else
    if eqb n 1 then some (ask_move on a b c d) else
    if eqb n 2 then some (ask_move back a b c d) else
    if eqb n 3 then some (ask_period on a b) else
    if eqb n 4 then some (ask_period back a b) else none

-- the query whose five numbers begin at i
unfoldable pub query_at : List ℤ → ℕ → Option Query
query_at q i =
    query_for (get_or q i (pos 0)) (get_or q (i + 1) (pos 0)) (get_or q (i + 1 + 1) (pos 0)) (get_or q (i + 1 + 1 + 1) (pos 0)) (get_or q (i + 1 + 1 + 1 + 1) (pos 0))

-- ---- answers

abbrev pub zeros : List ℤ
zeros = pos 0 ∷ pos 0 ∷ pos 0 ∷ pos 0 ∷ []

-- "the number that the single call returns"; "the refusal's place, or the windows resolved; 0 for a period"; "the answer's two or four numbers, and zeros
-- behind them"
abbrev pub six_of : Answer Reply → List ℤ
six_of (gives r) = pos 0 ∷ pos (least_of (gives r)) ∷ take 4 (r.values ++ zeros)
six_of (refuses n p) = pos n ∷ pos p ∷ zeros

abbrev pub no_query : ℕ
no_query = 101

-- "of another kind HIRGWAMO_NO_QUERY"; "A book that is refused gives its refusal to each query."
abbrev pub answer_to : Answer model.Schedule → Option Query → List ℤ
answer_to b none = six_of (refuses no_query 0)
answer_to b (some q) = six_of (b >>= λ s. reply_to s q)

-- the answers to n queries, the first of which begins at i
unfoldable pub answers_from : Answer model.Schedule → ℕ → ℕ → List ℤ → List ℤ
answers_from b zero i q = []
answers_from b (suc n) i q = answer_to b (query_at q i) ++ answers_from b n (i + 5) q

-- "Returns 0 where all answers are written; HIRGWAMO_NO_QUERY where `queries_len` is no multiple of five, and HIRGWAMO_TOO_SHORT where there are fewer than
-- six numbers for each query; then nothing is written."
unfoldable pub batch : Answer model.Schedule → List ℤ → List ℤ → Outcome
batch b q lent =
    let n = length q / 5 in
    if not (eqb (length q % 5) 0) then record { returned = no_query; numbers = lent } else
    if ltb (length lent) (6 * n) then record { returned = too_short; numbers = lent } else
    record { returned = 0; numbers = written 0 (answers_from b n 0 q) lent }

-- ---- what each function promises

-- the number is one of two kinds
unfoldable pub is_one_of : ℕ → ℕ → ℤ → Bool
is_one_of i j (pos n) = eqb n i || eqb n j
is_one_of i j (negsuc n) = false

-- a refusal is why there is no answer
abbrev pub is_refused : Refused → Unanswered → Type 0
is_refused r x = x ≡ U.Refused r

-- the numbers of an answer that the code has in hand
abbrev pub any_numbers : Result AnyAnswer Unanswered → List ℤ
any_numbers (Ok (A.Counted x)) = pos 0 ∷ pos x.windows ∷ x.secs ∷ x.nanos ∷ pos 0 ∷ pos 0 ∷ []
any_numbers (Ok (A.Period p)) = pos 0 ∷ pos 0 ∷ period_numbers p
any_numbers (Err U.NoQuery) = pos no_query ∷ pos 0 ∷ zeros
any_numbers (Err (U.Refused r)) = pos (number_of r.refusal) ∷ pos r.place ∷ zeros

-- its windows and its place are signed 64-bit numbers
abbrev pub AnyFits : Result AnyAnswer Unanswered → Type 0
AnyFits (Ok (A.Counted x)) = x.windows < 2 ^ 63
AnyFits (Ok (A.Period p)) = Unit {0}
AnyFits (Err U.NoQuery) = Unit {0}
AnyFits (Err (U.Refused r)) = r.place < 2 ^ 63

-- it is the answer of the definitions
pub record IsSix (r : Result AnyAnswer Unanswered) (l : List ℤ) : Type 0 where
  pub numbers : any_numbers r ≡ l
  pub fits : AnyFits r

-- the code's schedule is one that a book makes
abbrev pub Ready : List ℕ → List ℕ → Schedule → Type 0
Ready book pack s = ScheduleFits book pack s × BuiltWell (schedule_is book pack s)

-- the answer to a query, by what the book is
abbrev pub AnswersAs : Answer model.Schedule → ℤ → ℤ → ℤ → ℤ → ℤ → Result AnyAnswer Unanswered → Type 0
AnswersAs b k x₁ x₂ y₁ y₂ r = IsSix r (answer_to b (query_for k x₁ x₂ y₁ y₂))

-- so of a schedule that is built
abbrev pub AnswersBy : List ℕ → List ℕ → Schedule → ℤ → ℤ → ℤ → ℤ → ℤ → Result AnyAnswer Unanswered → Type 0
AnswersBy book pack s k x₁ x₂ y₁ y₂ r = AnswersAs (gives (schedule_is book pack s)) k x₁ x₂ y₁ y₂ r

-- `between`, `add` and `sub`, and the periods, of a schedule that is built
abbrev pub TimedBy : List ℕ → List ℕ → Schedule → ℤ → ℤ → ℤ → ℤ → Result AnyAnswer Unanswered → Type 0
TimedBy book pack s a b c d r = IsSix r (six_of (reply_to (schedule_is book pack s) (ask_between a b c d)))

abbrev pub MovedBy : List ℕ → List ℕ → Schedule → Bool → ℤ → ℤ → ℤ → ℤ → Result AnyAnswer Unanswered → Type 0
MovedBy book pack s is_back a b c d r = IsSix r (six_of (reply_to (schedule_is book pack s) (ask_move (way_of is_back) a b c d)))

abbrev pub PeriodBy : List ℕ → List ℕ → Schedule → Bool → ℤ → ℤ → Result AnyAnswer Unanswered → Type 0
PeriodBy book pack s is_back a b r = IsSix r (six_of (reply_to (schedule_is book pack s) (ask_period (way_of is_back) a b)))

-- the query at i is answered from `at` on
abbrev pub OneAnswered : Answer model.Schedule → List ℤ → ℕ → ℕ → List ℤ → List ℤ → Type 0
OneAnswered b q i at old new = new ≡ written at (answer_to b (query_at q i)) old

-- all queries are answered
abbrev pub BatchAnswered : Answer model.Schedule → List ℤ → List ℤ → List ℤ → Type 0
BatchAnswered b q old new = new ≡ written 0 (answers_from b (length q / 5) 0 q) old

-- r is returned, and the answers go from `old` to `new`
abbrev pub BatchEnds : List ℕ → List ℕ → List ℤ → ℕ → List ℤ → List ℤ → Type 0
BatchEnds book pack q r old new = EndsAs r new (batch (build book pack) q old)
