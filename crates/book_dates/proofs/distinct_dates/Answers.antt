-- `book_dates::distinct_dates` meets its contract.
use native.Mathlib.Omega.{arith}
use Prim.Native.Nat.{ℕ}
use Rattle.book_dates.proofs.Same.{counted}
use Rattle.book_dates.proofs.Words.{all-differ}
use Rattle.book_dates.proofs.distinct_dates.Goals as goal

pub returns-then-ascend : goal.returns-then-ascend
returns-then-ascend c = (counted _ (λ (k : ℕ). (c.type_inv.b k).fits) _ _ c.requires (all-differ _ _ _ c.ascend.ensures c.if-ascend.true), omega arith)

pub returns-else-ascend : goal.returns-else-ascend
returns-else-ascend c = (counted _ (λ (k : ℕ). (c.type_inv.b k).fits) _ _ c.requires c.marked_count.ensures.0, c.marked_count.ensures.1)
