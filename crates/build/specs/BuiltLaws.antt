-- A result of which only its meaning is known tells what the definitions' `build` answers: what it gives, or the refusal with its number and place.
use Rattle.std.specs.Prelude.{◌≡◌, List, ℕ, Result, Ok, Err}
use Rattle.model.specs.Answer.{Answer, gives, refuses, ◌>>=◌}
use Rattle.model.specs.Build.{build}
use Rattle.model.specs.Working as model
use Rattle.refusal.specs.declared.Refused.{Refused}
use Rattle.refusal.specs.Refused.{number_of}
use Rattle.refusal.specs.Answered.{answer_of}
use Rattle.rule.specs.declared.Schedule.{Schedule}
use Rattle.rule.specs.Rules.{schedule_is}

module _ (b p : List ℕ) (r : Result Schedule Refused) (e : answer_of (schedule_is b p) r ≡ build b p) where
  pub build-gives : {s : Schedule} → r ≡ Ok s → gives (schedule_is b p s) ≡ build b p
  build-gives n = rw n at e

  pub build-refuses : {x : Refused} → r ≡ Err x → refuses (number_of x.refusal) x.place ≡ build b p
  build-refuses n = rw n at e

module _ {A : Type 0} (b p : List ℕ) (r : Result Schedule Refused) (f : model.Schedule → Answer A) (e : answer_of (schedule_is b p) r ≡ build b p) where
  pub not-built : {x : Refused} → r ≡ Err x → refuses (number_of x.refusal) x.place ≡ (build b p >>= f)
  not-built n = rw (← build-refuses b p r e n)

  pub is-built : {s : Schedule} → r ≡ Ok s → {a : Answer A} → a ≡ f (schedule_is b p s) → a ≡ (build b p >>= f)
  is-built n q = rw (← build-gives b p r e n) q
