-- What went before an answer: each step of a chain that answers has answered.
use Rattle.std.specs.Prelude.{◌≡◌, refl, Bool, true, false, ℕ}
use Rattle.std.proofs.Math.Option.{Option, none, some}
use Rattle.model.specs.Basic.{given}
use Rattle.model.specs.Answer.{Answer, gives, refuses, ◌>>=◌, or_refuse}
use Rattle.laws_base.specs.Test.{never}

-- a step that answered, behind one that answered
pub step-gave : {A B : Type 0} {f : A → Answer B} {b : B} (o : Answer A) → (o >>= f) ≡ gives b → (a : A) × (o ≡ gives a) × (f a ≡ gives b)
step-gave (gives a) e = (a, refl, e)
step-gave (refuses n p) e = never (cc)

pub or-gave : {A : Type 0} (n p : ℕ) (o : Option A) {a : A} → or_refuse n p o ≡ gives a → o ≡ some a
or-gave n p (some x) e = cc
or-gave n p none e = never (cc)

pub test-gave : {A : Type 0} (n p : ℕ) (c : Bool) (x : A) {a : A} → or_refuse n p (given c x) ≡ gives a → (c ≡ true) × (x ≡ a)
test-gave n p true x e = (refl, cc)
test-gave n p false x e = never (cc)
