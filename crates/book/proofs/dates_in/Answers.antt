-- `book::dates_in` meets its contract.
use mathlib.Core.Path.{◌∙◌, ap}
use Prim.Native.Nat.{ℕ, ◌+◌}
use lib.ListN.{get_or}
use Rattle.big_endian.specs.Be.{be16}
use Rattle.book.proofs.Entries.{dates-read}
use Rattle.book.proofs.dates_in.Goals as goal

pub returns : goal.returns
returns c = (dates-read _ _ c.requires.0.0 c.requires.1 (c.small_at.ensures.0 ∙ ap (λ (k : ℕ). get_or c.args.book.now (k + 1) 0) (c.start_at-at.ensures.0)) (c.be16_at.ensures.0 ∙ ap (λ (k : ℕ). be16 c.args.book.now (k + 2 + c.small_at.result)) (c.start_at-at.ensures.0)), c.be16_at.ensures.1)
