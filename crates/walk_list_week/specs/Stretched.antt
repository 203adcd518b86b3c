-- Stretches as they are found block by block: those that are ended, the one that is still open, and the numbers that are written of them.
use Rattle.std.specs.Prelude.{◌≡◌, Bool, true, false, List, [], ◌∷◌, ◌++◌, map, ℕ, ◌+◌, ◌*◌, ◌≤◌, ◌<◌, max, leb, ℤ, length, take, drop, get_or, if◌then◌else◌, Option, Some, None}
use Rattle.model.specs.Basic.{joined}
use Rattle.model.specs.Blocks.{Block, block, merged, merged_from}
use Rattle.model.specs.Instant.{instant}
use Rattle.laws_blocks.specs.Move.{moves}
use Rattle.laws_blocks.specs.Count672.{most_blocks}
use Rattle.instant.specs.Instant.{nanos, most}
use Rattle.instant.specs.declared.Instant.{Instant}
use Rattle.block.specs.Counted.{block_of}
use Rattle.block.specs.declared.Block.{Block as Item}
use Rattle.block_pairs.specs.Pairs.{pairs}
use Rattle.walk_list_week.specs.declared.Open.{Open}

-- ---- stretches

-- the stretches of an open one, if there is one, and the blocks behind it
unfoldable pub on_from : Option Block → List Block → List Block
on_from (Some b) l = merged_from b l
on_from None l = merged l

-- of these, the ones that end before the last: a block behind them is apart from them
unfoldable pub ended : Option Block → List Block → List Block
ended o [] = []
ended None (c ∷ l) = ended (Some c) l
ended (Some b) (c ∷ l) =
    let joins = ended (Some (block b.start (max b.end c.end))) l in
    let apart = ended (Some c) l in
    if leb c.start b.end then joins else b ∷ apart

-- and the last, if there is one, which is still open behind all blocks
unfoldable pub still_open : Option Block → List Block → Option Block
still_open o [] = o
still_open None (c ∷ l) = still_open (Some c) l
still_open (Some b) (c ∷ l) =
    let joins = still_open (Some (block b.start (max b.end c.end))) l in
    let apart = still_open (Some c) l in
    if leb c.start b.end then joins else apart

-- ---- numbers

-- l over the numbers of e, from i on
unfoldable pub placed : ℕ → List ℤ → List ℤ → List ℤ
placed i l e = take i e ++ (l ++ drop (i + length l) e)

-- "start second, nanoseconds, end second, nanoseconds"
abbrev pub fields : Block → List ℤ
fields b = instant b.start ++ instant b.end

-- the lent numbers e with the stretches l behind the first n stretches, where they are to be written; else e
unfoldable pub stored : Bool → ℕ → List Block → List ℤ → List ℤ
stored true n l e = placed (4 * n) (joined (map fields l)) e
stored false n l e = e

-- ---- a window's blocks, as pairs of numbers that are distances from its start

-- block i of l
abbrev pub block_from : Instant → List ℕ → ℕ → Block
block_from lo l i = block (get_or l (2 * i) 0 + nanos lo) (get_or l (2 * i + 1) 0 + nanos lo)

-- the first n blocks of l
abbrev pub blocks_from : Instant → ℕ → List ℕ → List Block
blocks_from lo n l = moves (nanos lo) (pairs n l)

-- ---- what is asked of a window's blocks

-- no listing has as many stretches as this
abbrev pub most_stretches : ℕ
most_stretches = 1000000000000

-- a block's borders are before 2^63 seconds
abbrev pub SmallBlock : Block → Type 0
SmallBlock b = (b.start < most) × (b.end < most)

-- and those of a block, if there is one
abbrev pub SmallOpen : Option Block → Type 0
SmallOpen (Some b) = SmallBlock b
SmallOpen None = Unit {0}

-- and those of all blocks
abbrev pub Below : List Block → Type 0
Below [] = Unit {0}
Below (b ∷ l) = SmallBlock b × Below l

-- the stretch that is open, if there is one
abbrev pub open_of : Option Item → Option Block
open_of (Some b) = Some (block_of b)
open_of None = None

-- the blocks l of a window, and the lent numbers: those that are written have room
pub record StretchReady (l : List Block) (o : Open) (write : Bool) (e : List ℤ) : Type 0 where
  pub few : length l ≤ most_blocks
  pub small : SmallOpen (open_of o.block)
  pub below : Below l
  pub count : o.count < most_stretches
  pub room : write ≡ true → 4 * (o.count + length (ended (open_of o.block) l)) ≤ length e

-- what a window leaves: the stretch that is open, and how many have ended
pub record Left (l : List Block) (o r : Open) : Type 0 where
  pub last : open_of r.block ≡ still_open (open_of o.block) l
  pub small : SmallOpen (open_of r.block)
  pub count : r.count ≡ o.count + length (ended (open_of o.block) l)

-- a window's blocks l are joined to the open stretch o: r is what it leaves, and the stretches that end are written where they are to be
abbrev pub Joins : List Block → Open → Bool → List ℤ → List ℤ → Open → Type 0
Joins l o write before after r =
    Left l o r × (after ≡ stored write o.count (ended (open_of o.block) l) before)

-- ---- the end of a listing

-- the stretch that is open, if there is one
abbrev pub last_of : Open → List Block
last_of o = on_from (open_of o.block) []

-- it has room where it is to be written
abbrev pub CanFinish : Open → Bool → List ℤ → Type 0
CanFinish o write e =
    SmallOpen (open_of o.block) × (o.count < most_stretches) × (write ≡ true → 4 * (o.count + length (last_of o)) ≤ length e)

-- r is the number of all stretches, and the last is written where it is to be
abbrev pub Finishes : Open → Bool → List ℤ → List ℤ → ℕ → Type 0
Finishes o write before after r = (r ≡ o.count + length (last_of o)) × (after ≡ stored write o.count (last_of o) before)
