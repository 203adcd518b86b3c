-- The last step of `build`.
use mathlib.Core.Path.{◌≡◌, sym, ◌∙◌}
use mathlib.Core.Bool.{Bool, true, false}
use mathlib.Core.List.{List}
use Prim.Native.Nat.{ℕ}
use Rattle.std.specs.Prelude.{Ok, Err}
use Rattle.model.specs.Answer.{gives, refuses}
use Rattle.model.specs.Build.{works_in_2001}
use Rattle.refusal.specs.declared.Refused.{Refused}
use Rattle.refusal.specs.declared.Refusal.TheVariants.{NoWorkingTime}
use Rattle.refusal.specs.Refused.{number_of, at_0}
use Rattle.rule.specs.declared.Schedule.{Schedule}
use Rattle.rule.specs.Rules.{schedule_is}
use Rattle.build.specs.Read.{rules_read, AnswersRules, Builds, build-reads}

module _ (b p : List ℕ) where
  pub refused-before : {x : Refused} → AnswersRules b p (Err x) → Builds b p (Err x)
  refused-before {x} is =
      let q : rules_read b p ≡ refuses (number_of x.refusal) x.place = sym is.means in
      record { means = sym (build-reads b p ∙ rw q); fits = tt }

  module _ {s : Schedule} (is : AnswersRules b p (Ok s)) {t : Bool} (w : t ≡ works_in_2001 (schedule_is b p s)) where
    read-gives : rules_read b p ≡ gives (schedule_is b p s)
    read-gives = sym is.means

    pub works : t ≡ true → Builds b p (Ok s)
    works q =
        let k : works_in_2001 (schedule_is b p s) ≡ true = sym w ∙ q in
        record { means = sym (build-reads b p ∙ rw (read-gives, k)); fits = is.fits }

    pub no-work : t ≡ false → {x : Refused} → x ≡ at_0 NoWorkingTime → Builds b p (Err x)
    no-work q v =
        let k : works_in_2001 (schedule_is b p s) ≡ false = sym w ∙ q in
        let n : Builds b p (Err (at_0 NoWorkingTime)) = record { means = sym (build-reads b p ∙ rw (read-gives, k)); fits = tt } in
        rw v n
