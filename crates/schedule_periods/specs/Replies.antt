-- What the calls give, as numbers in the order of document 01, and what the walk for a period answers with its instant.
use Rattle.std.specs.Prelude.{◌≡◌, Bool, List, [], ◌∷◌, ◌++◌, ℕ, ℤ, pos, Result, IfOk}
use Rattle.std.proofs.Math.Option.{none}
use Rattle.model.specs.Answer.{Answer, gives, ◌>>=◌}
use Rattle.model.specs.Blocks.{Block, block}
use Rattle.model.specs.Build.{build}
use Rattle.model.specs.Calls.{Reply, period_call}
use Rattle.model.specs.Instant.{instant_of}
use Rattle.mark.specs.Marks.{mark_number}
use Rattle.model.specs.Marks.{marked_period_call}
use Rattle.model.specs.Walk.{Way, period}
use Rattle.model.specs.Working as model
use Rattle.instant.specs.Instant.{nanos, InRange}
use Rattle.instant_signed.specs.Reads.{instant_numbers}
use Rattle.refusal.specs.Answered.{answer_of}
use Rattle.refusal.specs.declared.Refused.{Refused}
use Rattle.rule.specs.declared.Schedule.{Schedule}
use Rattle.rule.specs.Rules.{schedule_is}
use Rattle.walk_distance.specs.Distances.{way_of}
use Rattle.walk_period.specs.Found.{PeriodFits}
use Rattle.schedule_periods.specs.declared.Period.{Period}
use Rattle.schedule_periods.specs.declared.MarkedPeriod.{MarkedPeriod}
use Rattle.schedule_periods.specs.declared.Walked.{Walked}

-- a period's start and end, each as seconds and nanoseconds
abbrev pub period_numbers : Period → List ℤ
period_numbers p = instant_numbers p.start ++ instant_numbers p.end

-- a reply with these numbers; a period tells no windows
abbrev pub period_given : List ℤ → Reply
period_given l = record { values = l; windows = none }

abbrev pub period_reply : Period → Reply
period_reply p = period_given (period_numbers p)

-- the same numbers, then the marks of both
abbrev pub marked_numbers : MarkedPeriod → List ℤ
marked_numbers p = period_numbers p.period ++ pos (mark_number p.marks.start) ∷ pos (mark_number p.marks.end) ∷ []

-- `next_period` of the definitions goes on, `previous_period` back, of a schedule that is built; with marks `next_marked` and `previous_marked`
abbrev pub period_asked : Bool → List ℕ → List ℕ → Schedule → ℤ → ℤ → Answer Reply
period_asked back book pack s t₁ t₂ = period_call (way_of back) (schedule_is book pack s) t₁ t₂

abbrev pub marked_asked : Bool → List ℕ → List ℕ → Schedule → ℤ → ℤ → Answer (List ℤ)
marked_asked back book pack s t₁ t₂ = marked_period_call (way_of back) (schedule_is book pack s) t₁ t₂

-- and of a book and a pack
abbrev pub marked_of : Bool → List ℕ → List ℕ → ℤ → ℤ → Answer (List ℤ)
marked_of back book pack t₁ t₂ = build book pack >>= λ s. marked_period_call (way_of back) s t₁ t₂

-- ---- the walk

-- an instant and the period that is walked to from it
abbrev pub walk_call : Way → model.Schedule → ℤ → ℤ → Answer (ℕ × Block)
walk_call w s t₁ t₂ =
    instant_of t₁ t₂ >>= λ t.
    period w s t >>= λ p.
    gives (t, p)

abbrev pub walked_is : Walked → ℕ × Block
walked_is x = (nanos x.from, block (nanos x.near) (nanos x.far))

-- r stands for the definitions' answer, and its distances lie in the range
pub record WalksAs (book pack : List ℕ) (s : Schedule) (back : Bool) (t₁ t₂ : ℤ) (r : Result Walked Refused) : Type 0 where
  pub means : answer_of walked_is r ≡ walk_call (way_of back) (schedule_is book pack s) t₁ t₂
  pub fits : IfOk r (λ x. InRange x.from × PeriodFits (way_of back) (nanos x.from) x.near x.far)
