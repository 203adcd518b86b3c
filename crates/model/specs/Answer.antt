-- Answers. Document 01, "Refusals, each with an input": "A refusal returns its number and a place".
use Rattle.std.proofs.Math.Option.{Option, none, some}
use Rattle.std.specs.Prelude.{ℕ}

infixl 1 ◌>>=◌
pub data Answer (A : Type 0) : Type 0 where
  gives : A → Answer A
  -- number, place
  refuses : ℕ → ℕ → Answer A

abbrev pub ◌>>=◌ : {A B : Type 0} → Answer A → (A → Answer B) → Answer B
gives a >>= f = f a
refuses n p >>= f = refuses n p

-- what is there, or a refusal of that number and place
abbrev pub or_refuse : {A : Type 0} → ℕ → ℕ → Option A → Answer A
or_refuse n p (some a) = gives a
or_refuse n p none = refuses n p
