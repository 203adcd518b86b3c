-- `instant::earlier` meets its contract, by the test that `precedes` makes. Assumes nothing.
use mathlib.Core.Path.{sym, ◌∙◌}
use Rattle.instant.specs.Instant.{nanos}
use Rattle.instant.proofs.Tests.{second-earlier, first-earlier}
use Rattle.instant.proofs.earlier.Goals as goal

pub returns-then-precedes : goal.returns-then-precedes
returns-then-precedes c = second-earlier (nanos c.args.a) (nanos c.args.b) (sym c.precedes.ensures ∙ c.if-precedes.true)

pub returns : goal.returns
returns c = first-earlier (nanos c.args.a) (nanos c.args.b) (sym c.precedes.ensures ∙ c.if-precedes.false)
