-- How many numbers each array of a walk's memory has.
use Rattle.std.specs.Prelude.{◌≡◌, List, ℕ, ◌+◌, ◌*◌, ◌≤◌, ◌<◌, leb, get_or, if◌then◌else◌}
use Rattle.std.proofs.Common.{arith, le-leb}
use Rattle.std.proofs.lemmas.Bool.{lt-leb}
use Rattle.window_memory.specs.declared.Size.{Size}
use Rattle.window_memory.specs.declared.Size.TheVariants as S

-- the most records of a book: 16 of work, 16 breaks and 8 holiday records
abbrev pub most_rules : ℕ
most_rules = 40

-- the numbers that an array needs for so many records: two for each of 14 dates of each record, and two more
abbrev pub numbers_for : ℕ → ℕ
numbers_for n = 28 * n + 2

-- the numbers of a size
abbrev pub numbers_of : Size → ℕ
numbers_of S.One = numbers_for 1
numbers_of S.Four = numbers_for 4
numbers_of S.All = numbers_for most_rules

-- the least of the three sizes that has room for so many records
unfoldable pub least_size : ℕ → Size
least_size n =
    if leb (numbers_for n) (numbers_of S.One) then S.One else
    if leb (numbers_for n) (numbers_of S.Four) then S.Four else S.All

-- that size, and its room
abbrev pub SizeFor : ℕ → Size → Type 0
SizeFor n r = (r ≡ least_size n) × (numbers_for n ≤ numbers_of r)

-- each number of the memory is 0
abbrev pub IsClear : List ℕ → Type 0
IsClear l = (k : ℕ) → get_or l k 0 ≡ 0

-- from the code's tests
pub size-one : (n : ℕ) → n ≤ 1 → SizeFor n S.One
unfolding least_size
size-one n h = (rw (le-leb (numbers_for n) (numbers_of S.One) (omega arith)), omega arith)

pub size-four : (n : ℕ) → 1 < n → n ≤ 4 → SizeFor n S.Four
unfolding least_size
size-four n g h = (rw (lt-leb (numbers_for n) (numbers_of S.One) (omega arith), le-leb (numbers_for n) (numbers_of S.Four) (omega arith)), omega arith)

pub size-all : (n : ℕ) → 4 < n → n ≤ most_rules → SizeFor n S.All
unfolding least_size
size-all n g h = (rw (lt-leb (numbers_for n) (numbers_of S.One) (omega arith), lt-leb (numbers_for n) (numbers_of S.Four) (omega arith)), omega arith)
