-- What the answer of a listing means, and what its walk is asked and leaves.
use Rattle.std.specs.Prelude.{◌≡◌, Bool, true, List, ℕ, ◌*◌, ◌≤◌, leb, ℤ, length, Result}
use Rattle.model.specs.Answer.{Answer}
use Rattle.model.specs.Blocks.{Block}
use Rattle.model.specs.Walk.{stretches}
use Rattle.model.specs.Calls as model
use Rattle.model.specs.Calls.{list_call, stretch_count, numbers_after}
use Rattle.instant.specs.Instant.{nanos, InRange}
use Rattle.instant.specs.declared.Instant.{Instant}
use Rattle.refusal.specs.Answered.{answer_of}
use Rattle.refusal.specs.declared.Refused.{Refused}
use Rattle.rule.specs.declared.Schedule.{Schedule}
use Rattle.rule.specs.Rules.{schedule_is, ScheduleFits}
use Rattle.walk_list_week.specs.Stretched.{stored}

-- how many stretches
abbrev pub count_is : ℕ → ℕ
count_is n = n

-- the definitions' answer of a schedule that is built
abbrev pub list_in : List ℕ → List ℕ → Schedule → ℤ → ℤ → ℤ → ℤ → List ℤ → Answer model.Listing
list_in book pack s a₁ a₂ b₁ b₂ lent = list_call (schedule_is book pack s) a₁ a₂ b₁ b₂ lent

-- the answer r is that of the definitions, d, and so are the lent numbers afterwards
abbrev pub ListsAs : List ℤ → List ℤ → Result ℕ Refused → Answer model.Listing → Type 0
ListsAs before after r d = (answer_of count_is r ≡ stretch_count d) × (after ≡ numbers_after d before)

-- ---- the walk

-- the stretches of a schedule from a to b
abbrev pub stretches_of : List ℕ → List ℕ → Schedule → Instant → Instant → List Block
stretches_of book pack s a b = stretches (schedule_is book pack s) (nanos a) (nanos b)

-- the stretches from a to b can be found, and have room in the lent numbers where they are to be written
pub record CanWalk (book pack : List ℕ) (s : Schedule) (a b : Instant) (write : Bool) (out : List ℤ) : Type 0 where
  pub fits : ScheduleFits book pack s
  pub start : InRange a
  pub end : InRange b
  pub space : write ≡ true → 4 * length (stretches_of book pack s a b) ≤ length out

-- r is their number, and they stand at the front of the lent numbers where they are to be written
abbrev pub Puts : List ℕ → List ℕ → Schedule → Instant → Instant → Bool → List ℤ → List ℤ → ℕ → Type 0
Puts book pack s a b write before after r =
    (r ≡ length (stretches_of book pack s a b)) × (after ≡ stored write 0 (stretches_of book pack s a b) before)

-- r tells whether they have room in the lent numbers, which stay
abbrev pub Suffices : List ℕ → List ℕ → Schedule → Instant → Instant → List ℤ → List ℤ → Bool → Type 0
Suffices book pack s a b before after r =
    (r ≡ leb (4 * length (stretches_of book pack s a b)) (length before)) × (after ≡ before)
