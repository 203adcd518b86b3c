-- Whether anything is left of blocks.
use Rattle.std.specs.Prelude.{Bool, ◌≡◌, List, ℕ, ◌≤◌}
use Rattle.model.specs.Blocks.{Block, union, subtract}
use Rattle.model.specs.Walk.{onward}
use Rattle.laws_blocks.specs.Members.{Normal}
use Rattle.instant.specs.Instant.{nanos}
use Rattle.instant.specs.declared.Instant.{Instant}
use Rattle.rule.specs.declared.Rule.{Rule}
use Rattle.block_list.specs.declared.Blocks.{Blocks}
use Rattle.block_list.specs.Listed.{capacity, list_of}
use Rattle.build_blocks.specs.Shown.{any_block, blocks_shown}

-- something of on is left without the blocks of off
unfoldable pub leaves : List Block → List Block → Bool
leaves on off = any_block (subtract on off)

-- a block list that is sorted and merged: its blocks are apart
pub record Merged (b : Blocks) : Type 0 where
  pub few : b.len ≤ capacity
  pub normal : Normal (list_of b)

-- the union of what the first n rules have in the window [lo, hi), from lo
pub record UnionOf (pack : List ℕ) (rules : List Rule) (n : ℕ) (lo hi : Instant) (b : Blocks) : Type 0 where
  pub same : list_of b ≡ union (onward (nanos lo) (blocks_shown pack rules n lo hi))
  pub merged : Merged b
