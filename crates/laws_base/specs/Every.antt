-- What holds of each element of a list.
use Rattle.std.specs.Prelude.{List, [], ◌∷◌, ◌++◌, ℕ, zero, suc, ◌+◌, ◌≤◌, ◌<◌, length, get_or, take}
use Rattle.std.proofs.Common.{arith}

abbrev pub Every : {A : Type 0} → (A → Type 0) → List A → Type 0
Every P [] = Unit {0}
Every P (a ∷ l) = P a × Every P l

pub every_map : {A : Type 0} (P Q : A → Type 0) → ((a : A) → P a → Q a) → (l : List A) → Every P l → Every Q l
every_map P Q f [] h = tt
every_map P Q f (a ∷ l) h = (f a h.0, every_map P Q f l h.1)

pub every-both : {A : Type 0} (P : A → Type 0) (l k : List A) → Every P l → Every P k → Every P (l ++ k)
every-both P [] k a b = b
every-both P (x ∷ l) k a b = (a.0, every-both P l k a.1 b)

pub every-apart : {A : Type 0} (P : A → Type 0) (l k : List A) → Every P (l ++ k) → Every P l × Every P k
every-apart P [] k h = (tt, h)
every-apart P (a ∷ l) k h = let r = every-apart P l k h.1 in ((h.0, r.0), r.1)

-- what holds of each of the first n holds of the one at i
pub every_front : {A : Type 0} (P : A → Type 0) (n : ℕ) (l : List A) (i : ℕ) (d : A) → i < n → n ≤ length l → Every P (take n l) → P (get_or l i d)
every_front P zero l i d h k a = absurd (omega arith)
every_front P (suc n) [] i d h k a = absurd (omega arith)
every_front P (suc n) (x ∷ l) zero d h k a = a.0
every_front P (suc n) (x ∷ l) (suc i) d h k a = every_front P n l i d (omega arith) (omega arith) a.1
