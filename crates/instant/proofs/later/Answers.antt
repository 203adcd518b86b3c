-- `instant::later` meets its contract, by the test that `precedes` makes. Assumes nothing.
use mathlib.Core.Path.{sym, ◌∙◌}
use Rattle.instant.specs.Instant.{nanos}
use Rattle.instant.proofs.Tests.{second-later, first-later}
use Rattle.instant.proofs.later.Goals as goal

pub returns-then-precedes : goal.returns-then-precedes
returns-then-precedes c = second-later (nanos c.args.a) (nanos c.args.b) (sym c.precedes.ensures ∙ c.if-precedes.true)

pub returns : goal.returns
returns c = first-later (nanos c.args.a) (nanos c.args.b) (sym c.precedes.ensures ∙ c.if-precedes.false)
