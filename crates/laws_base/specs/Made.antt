-- What a chain of steps makes: P holds of it, if each step hands on what the next one needs.
use Rattle.std.specs.Prelude.{◌≡◌, refl, Bool, true, false, ℕ}
use Rattle.std.proofs.Common.{subst, arith}
use Rattle.std.proofs.Math.Option.{Option, none, some}
use Rattle.model.specs.Basic.{◌>>=◌, need}
use Rattle.laws_base.specs.Test.{never}

-- what is made, if anything, has P
pub data Made {A : Type 0} (P : A → Type 0) : Option A → Type 0 where
  nothing : Made P none
  value : {a : A} → P a → Made P (some a)

pub made : {A : Type 0} {P : A → Type 0} (o : Option A) → ((a : A) → o ≡ some a → P a) → Made P o
made none f = nothing
made (some a) f = value (f a refl)

pub made-is : {A : Type 0} {P : A → Type 0} (o : Option A) (a : A) → Made P o → o ≡ some a → P a
made-is none a h e = never (cc)
made-is {P = P} (some b) a (value h) e = let p : b ≡ a = cc in subst P p h

-- one step behind another
pub next : {A B : Type 0} {P : A → Type 0} {Q : B → Type 0} {f : A → Option B} (o : Option A) → Made P o → ((a : A) → P a → Made Q (f a)) → Made Q (o >>= f)
next none h k = nothing
next (some a) (value h) k = k a h

-- a step that passed a test
pub tested : {B : Type 0} {Q : B → Type 0} {f : Unit {0} → Option B} (c : Bool) → ((u : Unit {0}) → c ≡ true → Made Q (f u)) → Made Q (need c >>= f)
tested true k = k tt refl
tested false k = nothing

abbrev pub Any : {A : Type 0} → A → Type 0
Any a = Unit {0}

pub anything : {A : Type 0} (o : Option A) → Made Any o
anything o = made o (λ _ _. tt)
