-- What a function for other languages returns, and the lent numbers afterwards. The sentences are those of the header hirgwamo.h, "WHAT IS RETURNED".
use Rattle.std.specs.Prelude.{◌≡◌, List, [], ◌∷◌, ℕ, ◌+◌, ltb, ℤ, pos, length, set, if◌then◌else◌}
use Rattle.model.specs.Answer.{Answer, gives, refuses}

-- l over the numbers of e, from i on
unfoldable pub written : ℕ → List ℤ → List ℤ → List ℤ
written i [] e = e
written i (a ∷ l) e = written (i + 1) l (set e i a)

pub record Outcome : Type 0 where
  pub returned : ℕ
  pub numbers : List ℤ

-- "0 where the call answers; then its numbers stand at the front of `answer`"; "Else the number of a refusal, and `answer[0]` is its place"
abbrev pub answering : Answer (List ℤ) → List ℤ → Outcome
answering (gives l) lent = record { returned = 0; numbers = written 0 l lent }
answering (refuses n p) lent = record { returned = n; numbers = written 0 (pos p ∷ []) lent }

abbrev pub too_short : ℕ
too_short = 100

-- "Where `answer` has fewer numbers than the function asks for, the return is HIRGWAMO_TOO_SHORT and nothing is written."
unfoldable pub outcome : ℕ → Answer (List ℤ) → List ℤ → Outcome
outcome size a lent = if ltb (length lent) size then record { returned = too_short; numbers = lent } else answering a lent

-- r is returned, and the lent numbers are `after`
abbrev pub EndsAs : ℕ → List ℤ → Outcome → Type 0
EndsAs r after o = (r ≡ o.returned) × (after ≡ o.numbers)
