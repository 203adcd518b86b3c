-- The stretches of blocks that come in two lists are those that the first list ends, then those of the one that it leaves open and the second list.
-- Assumes nothing.
use mathlib.Core.Path.{◌≡◌, refl, ap}
use mathlib.Core.Bool.{true, false}
use Rattle.std.specs.Prelude.{Option, Some, None}
use mathlib.Core.List.{List, [], ◌∷◌, ◌++◌}
use Prim.Native.Nat.{◌≤◌, max}
use native.Mathlib.Omega.{arith}
use lib.Dec.{leb, ltb}
use lib.ListN.{length}
use borrow.Author.Tests.{ltb-true, ltb-false, le-leb, lt-leb}
use Rattle.laws_base.specs.Test.{by-test}
use Rattle.model.specs.Blocks.{Block, block, merged, merged_from}
use Rattle.walk_list_week.specs.Stretched.{on_from, ended, still_open}

from-open : (b : Block) (l r : List Block) → merged_from b (l ++ r) ≡ ended (Some b) l ++ on_from (still_open (Some b) l) r
unfolding ended still_open on_from merged_from
from-open b [] r = refl
from-open b (c ∷ l) r =
    by-test (leb c.start b.end) (λ e. rw e (from-open (block b.start (max b.end c.end)) l r))
    (λ e. rw e (ap (λ (m : List Block). b ∷ m) (from-open c l r)))

pub from-append : (o : Option Block) (l r : List Block) → on_from o (l ++ r) ≡ ended o l ++ on_from (still_open o l) r
unfolding on_from ended still_open merged
from-append None [] r = refl
from-append None (c ∷ l) r = from-open c l r
from-append (Some b) l r = from-open b l r

-- ---- block by block

pub ended-none : (o : Option Block) → ended o [] ≡ []
unfolding ended
ended-none (Some b) = refl
ended-none None = refl

pub ended-first : (c : Block) (l : List Block) → ended None (c ∷ l) ≡ ended (Some c) l
unfolding ended
ended-first c l = refl

pub ended-joins : (b c : Block) (l : List Block) → ltb b.end c.start ≡ false → ended (Some b) (c ∷ l) ≡ ended (Some (block b.start (max b.end c.end))) l
unfolding ended
ended-joins b c l e = rw (le-leb c.start b.end (ltb-false b.end c.start e))

pub ended-apart : (b c : Block) (l : List Block) → ltb b.end c.start ≡ true → ended (Some b) (c ∷ l) ≡ b ∷ ended (Some c) l
unfolding ended
ended-apart b c l e = rw (lt-leb c.start b.end (ltb-true b.end c.start e))

pub open_none : (o : Option Block) → still_open o [] ≡ o
unfolding still_open
open_none (Some b) = refl
open_none None = refl

pub open-first : (c : Block) (l : List Block) → still_open None (c ∷ l) ≡ still_open (Some c) l
unfolding still_open
open-first c l = refl

pub open-joins : (b c : Block) (l : List Block) → ltb b.end c.start ≡ false → still_open (Some b) (c ∷ l) ≡ still_open (Some (block b.start (max b.end c.end))) l
unfolding still_open
open-joins b c l e = rw (le-leb c.start b.end (ltb-false b.end c.start e))

pub open-apart : (b c : Block) (l : List Block) → ltb b.end c.start ≡ true → still_open (Some b) (c ∷ l) ≡ still_open (Some c) l
unfolding still_open
open-apart b c l e = rw (lt-leb c.start b.end (ltb-true b.end c.start e))

-- as many as blocks at most
pub ended-few : (o : Option Block) (l : List Block) → length (ended o l) ≤ length l
unfolding ended
ended-few (Some b) [] = omega arith
ended-few None [] = omega arith
ended-few None (c ∷ l) = let h = ended-few (Some c) l in omega arith
ended-few (Some b) (c ∷ l) =
    by-test (leb c.start b.end) (λ e. rw e (let h = ended-few (Some (block b.start (max b.end c.end))) l in omega arith))
    (λ e. rw e (let h = ended-few (Some c) l in omega arith))
