-- What the block list of the code means: the blocks of the definitions.
use Rattle.std.specs.Prelude.{ℕ, List, map, take}
use Rattle.model.specs.Blocks.{Block as Block', block}
use Rattle.block_list.specs.declared.Block.{Block}
use Rattle.block_list.specs.declared.Blocks.{Blocks}

-- how many blocks a list holds at most
abbrev pub capacity : ℕ
capacity = 672

abbrev pub block_is : Block → Block'
block_is b = block b.start b.end

-- the first n of an array
abbrev pub first_blocks : ℕ → List Block → List Block'
first_blocks n l = map block_is (take n l)

-- the blocks that are used
abbrev pub list_of : Blocks → List Block'
list_of b = first_blocks b.len b.items

-- what the code reads past the end of an array
abbrev pub nil : Block
nil = record { start = 0; end = 0 }
