-- Choices, lists and partial answers that the other files share. Nothing here is about clocks.
use Rattle.std.specs.Prelude.{Bool, true, false, ◌&&◌, List, [], ◌∷◌, ◌++◌, ℕ, zero, suc, ◌+◌, min, max, leb, eqb, if◌then◌else◌}
use Rattle.std.proofs.Math.Option.{Option, none, some}

infixl 1 ◌>>=◌
abbrev pub ◌>>=◌ : {A B : Type 0} → Option A → (A → Option B) → Option B
none >>= f = none
some a >>= f = f a

-- a, where the test passes
abbrev pub given : {A : Type 0} → Bool → A → Option A
given true a = some a
given false a = none

-- a test to pass before going on
abbrev pub need : Bool → Option (Unit {0})
need c = given c tt

-- lo ≤ n ≤ hi
abbrev pub is_in : ℕ → ℕ → ℕ → Bool
is_in lo hi n = leb lo n && leb n hi

unfoldable pub all : {A : Type 0} → (A → Bool) → List A → Bool
all t [] = true
all t (a ∷ l) = let r = all t l in if t a then r else false

unfoldable pub any : {A : Type 0} → (A → Bool) → List A → Bool
any t [] = false
any t (a ∷ l) = let r = any t l in if t a then true else r

unfoldable pub filter : {A : Type 0} → (A → Bool) → List A → List A
filter t [] = []
filter t (a ∷ l) = let r = filter t l in if t a then a ∷ r else r

-- f of each, if it is there for all
unfoldable pub each : {A B : Type 0} → (A → Option B) → List A → Option (List B)
each f [] = some []
each f (a ∷ l) = f a >>= λ b. each f l >>= λ r. some (b ∷ r)

unfoldable pub sum : List ℕ → ℕ
sum [] = 0
sum (n ∷ l) = n + sum l

-- the greatest, 0 of none
abbrev pub maximum : List ℕ → ℕ
maximum [] = 0
maximum (n ∷ l) = max n (maximum l)

unfoldable pub least_of : ℕ → List ℕ → ℕ
least_of m [] = m
least_of m (n ∷ l) = least_of (min m n) l

-- the least, m of none
abbrev pub least_or : ℕ → List ℕ → ℕ
least_or m [] = m
least_or m (n ∷ l) = least_of n l

-- whether n is in the list
abbrev pub among : List ℕ → ℕ → Bool
among l n = any (eqb n) l

-- each number once
unfoldable pub distinct : List ℕ → List ℕ
distinct [] = []
distinct (n ∷ l) = let r = distinct l in if among l n then r else n ∷ r

-- first, first + 1, .. : n numbers
unfoldable pub run : ℕ → ℕ → List ℕ
run first zero = []
run first (suc n) = first ∷ run (suc first) n

unfoldable pub joined : {A : Type 0} → List (List A) → List A
joined [] = []
joined (a ∷ l) = a ++ joined l

unfoldable pub same_list : List ℕ → List ℕ → Bool
same_list [] [] = true
same_list [] (y ∷ ys) = false
same_list (x ∷ xs) [] = false
same_list (x ∷ xs) (y ∷ ys) = let r = same_list xs ys in if eqb x y then r else false

-- Unfolds every definition of this file, for computing. Each file below ends with such a name.
unfoldable pub basics : Unit {0}
unfolding all any filter each sum least_of distinct run joined same_list
basics = tt
