-- `book::kind_at` meets its contract.
use mathlib.Core.Path.{◌∙◌, ap}
use Prim.Native.Nat.{ℕ}
use lib.ListN.{get_or}
use Rattle.book.proofs.Entries.{kind-read}
use Rattle.book.proofs.kind_at.Goals as goal

pub returns : goal.returns
returns c = kind-read _ _ c.requires.0 (c.byte_at.ensures ∙ ap (λ (k : ℕ). get_or c.args.book.now k 0) c.start_at.ensures.0)
