-- The numbers of each answer, as the header hirgwamo.h tells them, and what a function promises of its return and of the lent numbers.
use Rattle.std.specs.Prelude.{◌≡◌, List, [], ◌∷◌, ◌++◌, ℕ, ltb, ℤ, pos, length, if◌then◌else◌}
use Rattle.std.proofs.Math.Option.{Option, none, some}
use Rattle.model.specs.Answer.{Answer, gives, ◌>>=◌}
use Rattle.model.specs.Calls.{Reply, Listing, said, least_of, stretch_count, numbers_after}
use Rattle.model.specs.Working.{Schedule}
use Rattle.answer_numbers.specs.Outcomes.{outcome, EndsAs}

-- "major * 1,000,000 + minor * 1,000 + patch"
abbrev pub version : ℕ
version = 1001000

-- ---- how many numbers each answer has

abbrev pub verdict_size : ℕ
verdict_size = 1

abbrev pub between_size : ℕ
between_size = 3

abbrev pub instant_size : ℕ
instant_size = 3

abbrev pub period_size : ℕ
period_size = 4

abbrev pub marked_period_size : ℕ
marked_period_size = 6

abbrev pub count_size : ℕ
count_size = 1

abbrev pub stretch_size : ℕ
stretch_size = 4

abbrev pub offset_size : ℕ
offset_size = 1

abbrev pub change_size : ℕ
change_size = 3

abbrev pub resolved_size : ℕ
resolved_size = 2

abbrev pub marked_instant_size : ℕ
marked_instant_size = 3

-- ---- which numbers

-- "Whether a book builds. answer: 0."
abbrev pub verdict : Answer Schedule → Answer (List ℤ)
verdict a = a >>= λ s. gives (pos 0 ∷ [])

-- "answer: seconds, nanoseconds, windows resolved"
abbrev pub with_count : Answer Reply → Answer (List ℤ)
with_count a = said a >>= λ l. gives (l ++ pos (least_of a) ∷ [])

-- "answer: how many stretches"
abbrev pub how_many : Answer Listing → Answer (List ℤ)
how_many a = stretch_count a >>= λ n. gives (pos n ∷ [])

-- "answer: seconds east of Greenwich"
abbrev pub one_number : Answer ℤ → Answer (List ℤ)
one_number a = a >>= λ o. gives (o ∷ [])

-- "1 and the change's seconds and nanoseconds, or three zeros where the offset stays to the range's end"
abbrev pub change_numbers : Option (List ℤ) → List ℤ
change_numbers (some l) = pos 1 ∷ l
change_numbers none = pos 0 ∷ pos 0 ∷ pos 0 ∷ []

abbrev pub when_changed : Answer (Option (List ℤ)) → Answer (List ℤ)
when_changed a = a >>= λ c. gives (change_numbers c)

-- ---- what is promised

-- r is returned, and the lent numbers go from `before` to `after`: by the answer a, which has so many numbers
abbrev pub Tells : ℕ → Answer (List ℤ) → ℕ → List ℤ → List ℤ → Type 0
Tells size a r before after = EndsAs r after (outcome size a before)

-- the numbers lent for a listing's stretches afterwards. "`stretches` changes only where the call answers"
unfoldable pub stretches_after : ℕ → Answer Listing → List ℤ → List ℤ
stretches_after room a lent = if ltb room count_size then lent else numbers_after a lent

abbrev pub TellsList : Answer Listing → ℕ → List ℤ → List ℤ → List ℤ → List ℤ → Type 0
TellsList a r before after lent listed = Tells count_size (how_many a) r before after × (listed ≡ stretches_after (length before) a lent)
