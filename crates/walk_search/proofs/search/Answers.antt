-- `walk_search::search` meets its contract: nothing to find, or by `search_into`. Assumes nothing.
use mathlib.Core.Path.{sym, ◌∙◌}
use native.Mathlib.Omega.{arith}
use borrow.Author.Tests.{ltb-false, not-true}
use Rattle.instant.specs.Instant.{nanos}
use Rattle.walk_search.proofs.Searching.{nothing-found, nothing-count}
use Rattle.walk_search.proofs.search.Goals as goal

pub returns-then-not-precedes : goal.returns-then-not-precedes
returns-then-not-precedes c =
    let h = ltb-false 0 (nanos c.args.d) (sym c.precedes.ensures ∙ not-true _ c.if-not-precedes.true-raw) in
    (nothing-found _ c.requires.0.well _ _ _ (omega arith), (omega arith, nothing-count _ c.requires.0.well _ _ _ (omega arith)))
