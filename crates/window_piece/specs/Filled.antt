-- What the functions that fill lent memory with the blocks of a window are asked and answer.
use Rattle.std.specs.Prelude.{◌≡◌, List, ◌++◌, ℕ, ◌+◌, ◌*◌, ◌-◌, ◌≤◌, ◌<◌, length}
use Rattle.model.specs.Blocks.{Block, clipped, union}
use Rattle.model.specs.Instant.{second, day, last_second, day_seconds}
use Rattle.model.specs.Walk.{onward}
use Rattle.laws_blocks.specs.Members.{Normal}
use Rattle.instant.specs.Instant.{nanos}
use Rattle.instant.specs.declared.Instant.{Instant}
use Rattle.block.specs.declared.Block.{Block as Item}
use Rattle.window_dates.specs.Windows.{from_day}
use Rattle.window_dates.specs.declared.LocalDates.{LocalDates}
use Rattle.block_pairs.specs.Pairs.{pairs}
use Rattle.window_piece.specs.declared.Frame.{Frame}

-- in nanoseconds: 14 days, two days, and 30 days
abbrev pub fortnight : ℕ
fortnight = 1209600000000000

abbrev pub two_days : ℕ
two_days = 172800000000000

abbrev pub near : ℕ
near = 2592000000000000

-- the seconds of 14 days and those from which offsets are counted
abbrev pub lead : ℕ
lead = 1303200

-- a block of the code that holds anything lies in the 14 days from lo on
pub record InFortnight (lo : Instant) (x : Item) : Type 0 where
  pub range : lo.sec ≤ last_second
  pub from : nanos x.start < nanos x.end → nanos lo ≤ nanos x.start
  pub upto : nanos x.start < nanos x.end → nanos x.end ≤ nanos lo + fortnight

-- the first w blocks are sorted and apart, and there is room for k more
pub record PairsReady (l : List ℕ) (w k : ℕ) : Type 0 where
  pub normal : Normal (pairs w l)
  pub room : 2 * (w + k) ≤ length l

-- the blocks b, as distances from t, were added to the first w blocks of l₀: these are now the first r of l, at most k more
pub record Filled (t : ℕ) (l₀ : List ℕ) (w : ℕ) (b : List Block) (k : ℕ) (l : List ℕ) (r : ℕ) : Type 0 where
  pub same : pairs r l ≡ union (pairs w l₀ ++ onward t b)
  pub count : r ≤ w + k
  pub long : length l ≡ length l₀

-- ---- dates by one offset

-- where one offset is known, the frame counts nanoseconds from 14 days before the second of lo: the first date's midnight by that offset, lo and hi
pub record IsFrame (days : LocalDates) (lo hi : Instant) (f : Frame) : Type 0 where
  pub lo-is : f.lo ≡ fortnight + lo.ns
  pub hi-is : f.hi + nanos lo ≡ f.lo + nanos hi
  pub known : 0 < f.first → 0 < days.offset
  pub first-is : 0 < f.first → f.first + (lo.sec + days.offset) * second ≡ (from_day days * day_seconds + lead) * second
  pub close : f.first ≤ near

-- the midnight of a date d, the first one's standing at m
abbrev pub midnight : ℕ → ℕ → ℕ → ℕ
midnight m first d = m + (d - first) * day

-- what a date shows of the frame's window, from a to b nanoseconds behind its midnight
abbrev pub plain_piece : Frame → ℕ → ℕ → ℕ → ℕ → List Block
plain_piece f first a b d = clipped f.lo f.hi (midnight f.first first d + a) (midnight f.first first d + b)
