-- The lines of the code's answers.
use Rattle.std.specs.Prelude.{List, ℕ, Option, Result, Ok, Err}
use Rattle.std.proofs.Math.Option.{some}
use Rattle.model.specs.Answer.{gives, refuses}
use Rattle.model.specs.Build.{build}
use Rattle.model.specs.Lines.{printed, reply_in, least_only}
use Rattle.rule.specs.Rules.{schedule_is}
use Rattle.rule.specs.declared.Schedule.{Schedule}
use Rattle.query_line.specs.Reading.{query_is, query_from}
use Rattle.query_line.specs.declared.Query.{Query}
use Rattle.answer_line.specs.Placed.{exactly, PlacedLine}
use Rattle.refusal.specs.declared.Refused.{Refused}
use Rattle.refusal.specs.Refused.{number_of}
use Rattle.refusal.specs.Answered.{answer_of}
use Rattle.schedule.specs.declared.Counted.{Counted}
use Rattle.schedule.specs.Answers.{values_of}
use Rattle.schedule_periods.specs.declared.Period.{Period}
use Rattle.schedule_periods.specs.Replies.{period_reply}

-- the line of a refusal
abbrev pub refusal_text : Refused → List ℕ
refusal_text r = printed least_only (refuses (number_of r.refusal) r.place)

-- the line of an answer with its number of windows
abbrev pub counted_text : Result Counted Refused → List ℕ
counted_text (Ok x) = printed (exactly x.windows) (gives (record { values = values_of x; windows = some (x.windows, x.windows) }))
counted_text (Err r) = refusal_text r

abbrev pub period_text : Result Period Refused → List ℕ
period_text r = printed least_only (answer_of period_reply r)

-- the line of a query to a schedule of the code is written
abbrev pub LineAnswered : List ℕ → List ℕ → Schedule → Query → List ℕ → List ℕ → ℕ → ℕ → Type 0
LineAnswered book pack s q old new at end = PlacedLine old new at end (reply_in least_only (gives (schedule_is book pack s)) (some (query_is q)))

-- the line of a query to a book and a pack is written
abbrev pub Replied : List ℕ → List ℕ → Option Query → List ℕ → List ℕ → ℕ → ℕ → Type 0
Replied book pack q old new at end = PlacedLine old new at end (reply_in least_only (build book pack) (query_from q))
