-- Document 01, "Tempting here": what each of the five wrong programs would get wrong, computed.
use Rattle.std.specs.Prelude.{◌≡◌, refl, true, List, [], ◌∷◌, ◌++◌, map, ℕ, ◌+◌, ◌*◌, pos}
use Rattle.model.specs.Basic.{run, joined}
use Rattle.model.specs.Bytes.{hex}
use Rattle.model.specs.Instant.{second}
use Rattle.model.specs.Blocks.{block, union}
use Rattle.model.specs.Build.{build}
use Rattle.model.specs.Walk.{found, gap, search_blocks}
use Rattle.model.specs.Calls.{add}
use Rattle.model.specs.Label.{office, no_zones, hour, is, is_built}
use Rattle.model.specs.All.{everything}

abbrev limit : ℕ
limit = 31622400 * second

-- the office with holidays on the first 20 days of 2001
abbrev holidays2001 : List ℕ
holidays2001 =
    hex 20 0x00000002_00000014_00000013_00000027_00000054 ++ hex 19 0x01_00_1F_00007E90_00000000_0000EF10_00000000
    ++ hex 4 0x03_00_0014 ++ joined (map (λ d. hex 4 (0x07D10100 + d)) (run 1 20))

pub record Tempting : Type 0 where
  -- landing on the next shift's start when the hours run out at a shift's end
  pub lands-at-end : add office no_zones (hour 8 9) (pos 0) (pos 28800) (pos 0) ≡ is (hour 8 17 ∷ pos 0 ∷ []) 1
  -- keeping blocks that merely touch as two
  pub joins-touching : union (block 7 9 ∷ block 5 7 ∷ []) ≡ block 5 9 ∷ []
  -- refusing at a gap equal to the limit
  pub crosses-limit : search_blocks limit (limit + 9) 0 3 (block limit (limit + 5) ∷ []) ≡ found (limit + 3)
  pub not_more : search_blocks limit (limit + 9) 0 3 (block (limit + 1) (limit + 5) ∷ []) ≡ gap
  -- taking the later of two repeated times: case 12. Counting holidays in the build check:
  pub builds-closed : is_built (build holidays2001 no_zones) ≡ true

pub tempting : Tempting
unfolding everything
tempting = record { lands-at-end = refl; joins-touching = refl; crosses-limit = refl; not_more = refl; builds-closed = refl }
