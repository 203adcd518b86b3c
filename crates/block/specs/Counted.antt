-- What a block of the code means: one of the definitions, counted in nanoseconds.
use Rattle.instant.specs.Instant.{nanos}
use Rattle.model.specs.Blocks.{Block as Block', block}
use Rattle.block.specs.declared.Block.{Block}

abbrev pub block_of : Block → Block'
block_of b = block (nanos b.start) (nanos b.end)
