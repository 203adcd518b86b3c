-- The two ways of a question mark on an Option that `ok_or` turned into a Result.
use Rattle.std.specs.Prelude.{◌≡◌, refl, Option, Some, None, Result, Ok, Err}
use Rattle.std.proofs.Common.{ap, ◌∙◌, ok_or}
use Rattle.std.specs.Result.{IsErrAnd}
use Rattle.std.proofs.lemmas.Result.{err_from_is_err_and}
use Rattle.refusal.specs.declared.Refusal.{Refusal}
use Rattle.refusal.specs.declared.Refused.{Refused}
use Rattle.refusal.specs.Refused.{at_0, place_0}

never : {P : Type 0} → ⊥ → P
never h = absurd h

-- on: there was a value
pub taken : {A E : Type 0} (o : Option A) (e : E) {a : A} → Ok a ≡ ok_or o e → o ≡ Some a
taken None e q = never (cc)
taken (Some b) e q = cc

-- out: there was none, and what is returned has the refusal without a place
pub left : {A T : Type 0} (o : Option A) (e d : Refusal) (out : Result T Refused) → IsErrAnd out (place_0 d) → Err d ≡ ok_or o e → (o ≡ None) × (out ≡ Err (at_0 e))
left None e d out h q =
    let p = err_from_is_err_and out h in
    let s : d ≡ e = cc in
    (refl, p.1 ∙ ap Err (p.2 ∙ ap at_0 s))
left (Some a) e d out h q = never (cc)
