-- A call that builds the schedule first: what `build` refuses is its answer, and else it asks the schedule.
use Rattle.std.specs.Prelude.{◌≡◌, List, ℕ, Ok, Err}
use Rattle.model.specs.Answer.{Answer, refuses, ◌>>=◌}
use Rattle.model.specs.Build.{build}
use Rattle.model.specs.Working as model
use Rattle.refusal.specs.declared.Refused.{Refused}
use Rattle.refusal.specs.Refused.{number_of}
use Rattle.rule.specs.declared.Schedule.{Schedule}
use Rattle.rule.specs.Rules.{schedule_is}
use Rattle.build.specs.Read.{Builds}

module _ {A : Type 0} (b p : List ℕ) (f : model.Schedule → Answer A) where
  pub not-built : {x : Refused} → Builds b p (Err x) → refuses (number_of x.refusal) x.place ≡ (build b p >>= f)
  not-built e = rw (← e.means)

  pub is-built : {s : Schedule} → Builds b p (Ok s) → {a : Answer A} → a ≡ f (schedule_is b p s) → a ≡ (build b p >>= f)
  is-built e q = rw (← e.means) q
