-- What the answers of the code mean: a place stands for the text from there on.
use Rattle.std.specs.Prelude.{Bool, true, false, List, ◌≡◌, ℕ, ◌≤◌, drop, IfSome}
use Rattle.std.specs.Prelude as std
use Rattle.std.proofs.Math.Option.{Option, none, some}
use Rattle.model.specs.Footer as model

-- the number, and the text behind it
abbrev pub number_in : List ℕ → std.Option (ℕ × ℕ) → Option (ℕ × List ℕ)
number_in s (std.Some r) = some (r.0, drop r.1 s)
number_in s std.None = none

-- the greatest number of three digits
abbrev pub three_digits : ℕ
three_digits = 999

-- r is what the parser gives at the place `at` of the text s, a number up to k
abbrev pub IsNumber : model.Parser ℕ → List ℕ → ℕ → ℕ → std.Option (ℕ × ℕ) → Type 0
IsNumber p s at k r = (number_in s r ≡ p (drop at s)) × IfSome r (λ v. v.0 ≤ k)

-- a text that may be missing at the place `at`
abbrev pub mark_in : List ℕ → ℕ → std.Option ℕ → Option (Bool × List ℕ)
mark_in s at (std.Some a) = some (true, drop a s)
mark_in s at std.None = some (false, drop at s)

-- a text that must be there
abbrev pub skip_in : List ℕ → std.Option ℕ → Option (Bool × List ℕ)
skip_in s (std.Some a) = some (true, drop a s)
skip_in s std.None = none
