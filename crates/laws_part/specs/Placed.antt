-- What every answer keeps, one step after the other: P holds of what is given, and a refusal's place is at most m.
use Rattle.std.specs.Prelude.{◌≡◌, refl, Bool, true, false, ℕ, ◌≤◌}
use Rattle.std.proofs.Common.{subst, arith}
use Rattle.std.proofs.Math.Option.{Option, none, some}
use Rattle.model.specs.Answer.{Answer, gives, refuses, ◌>>=◌, or_refuse}
use Rattle.model.specs.Basic.{given}
use Rattle.laws_base.specs.Made.{Any}
use Rattle.laws_base.specs.Test.{never}

pub data PlacedIn {A : Type 0} (P : A → Type 0) (m : ℕ) : Answer A → Type 0 where
  gave : {a : A} → P a → PlacedIn P m (gives a)
  refused-in : {n p : ℕ} → p ≤ m → PlacedIn P m (refuses n p)

-- a refusal at the place 0
pub at-0 : {A : Type 0} {P : A → Type 0} {m n : ℕ} → PlacedIn P m (refuses n 0)
at-0 = refused-in {p = 0} (omega arith)

pub placed-step : {A B : Type 0} {P : A → Type 0} {Q : B → Type 0} {m : ℕ} {f : A → Answer B} (o : Answer A) → PlacedIn P m o → ((a : A) → P a → PlacedIn Q m (f a)) → PlacedIn Q m (o >>= f)
placed-step (gives a) (gave h) k = k a h
placed-step (refuses n p) (refused-in h) k = refused-in h

-- a step whose place is no further than m
pub placed-or : {A : Type 0} {P : A → Type 0} {m : ℕ} (n p : ℕ) (o : Option A) → p ≤ m → ((a : A) → o ≡ some a → P a) → PlacedIn P m (or_refuse n p o)
placed-or n p (some a) h k = gave (k a refl)
placed-or n p none h k = refused-in h

pub placed-test : {A : Type 0} {P : A → Type 0} {m : ℕ} (n p : ℕ) (c : Bool) (a : A) → p ≤ m → (c ≡ true → P a) → PlacedIn P m (or_refuse n p (given c a))
placed-test n p true a h k = gave (k refl)
placed-test n p false a h k = refused-in h

-- what is known of the place alone
pub placed_by : {A : Type 0} {P : A → Type 0} {m : ℕ} (o : Answer A) → PlacedIn Any m o → ((a : A) → o ≡ gives a → P a) → PlacedIn P m o
placed_by (gives a) h k = gave (k a refl)
placed_by (refuses n p) (refused-in h) k = refused-in h

-- ---- what it tells

pub place-most : {A : Type 0} {P : A → Type 0} {m n p : ℕ} {o : Answer A} → PlacedIn P m o → o ≡ refuses n p → p ≤ m
place-most (gave h) e = never (cc)
place-most {m = m} {p = p} (refused-in {p = q} h) e = let s : q ≡ p = cc in subst (λ x. x ≤ m) s h

pub given-keeps : {A : Type 0} {P : A → Type 0} {m : ℕ} {a : A} {o : Answer A} → PlacedIn P m o → o ≡ gives a → P a
given-keeps {P = P} {a = a} (gave {a = b} h) e = let s : b ≡ a = cc in subst P s h
given-keeps (refused-in h) e = never (cc)
