-- What a `?` means in a call: of an option that is asked for with a refusal in place of none, and of a result whose refusal is passed on.
use Rattle.std.specs.Prelude.{◌≡◌, refl, Option, Some, None, Result, Ok, Err}
use Rattle.std.proofs.Common.{sym, ap, ◌∙◌}
use Rattle.std.specs.Option.{ok_or}
use Rattle.std.specs.Result.{IsErrAnd}
use Rattle.std.proofs.lemmas.Result.{err_from_is_err_and}
use Rattle.model.specs.Answer.{Answer, refuses}
use Rattle.refusal.specs.declared.Refusal.{Refusal}
use Rattle.refusal.specs.declared.Refused.{Refused}
use Rattle.refusal.specs.Refused.{number_of, at_0}
use Rattle.refusal.specs.Answered.{answer_of}

-- a refusal that another value converts into
pub converted : {A : Type 0} {x y : Refused} → x ≡ y → ◌≡◌ {A = Answer A} (refuses (number_of x.refusal) x.place) (refuses (number_of y.refusal) y.place)
converted e = ap (λ (r : Refused). refuses (number_of r.refusal) r.place) e

-- a refusal that is passed on
pub passed_on : {A B : Type 0} (g : A → B) (x : Result A Refused) (f : Refused) → IsErrAnd x (λ y. y ≡ f) → answer_of g x ≡ refuses (number_of f.refusal) f.place
passed_on g (Ok a) f k = absurd k
passed_on g (Err r) f k = converted k

none_if : {A : Type 0} (r : Refusal) (o : Option A) (f : Refusal) → ok_or o r ≡ Err f → (o ≡ None) × (f ≡ r)
none_if r None f k = (refl, cc)
none_if r (Some a) f k = absurd (cc)

some_if : {A : Type 0} (r : Refusal) (o : Option A) (a : A) → ok_or o r ≡ Ok a → o ≡ Some a
some_if r None a k = absurd (cc)
some_if r (Some b) a k = cc

-- o is asked for with the refusal r: q is what comes of it
module _ {A : Type 0} (o : Option A) (r : Refusal) {q : Result A Refusal} (e : q ≡ ok_or o r) where
  pub none_asked : {f : Refusal} → q ≡ Err f → o ≡ None
  none_asked {f} h = (none_if r o f (sym e ∙ h)).0

  pub some_asked : {a : A} → q ≡ Ok a → o ≡ Some a
  some_asked {a} h = some_if r o a (sym e ∙ h)

  pub refused_as : {B C : Type 0} (g : B → C) (x : Result B Refused) {f : Refusal} → q ≡ Err f → IsErrAnd x (λ y. y ≡ at_0 f) → answer_of g x ≡ refuses (number_of r) 0
  refused_as g x {f} h k = passed_on g x (at_0 f) k ∙ ap (λ (y : Refusal). refuses (number_of y) 0) (none_if r o f (sym e ∙ h)).1
