-- `build::utc` meets its contract.
use Rattle.rule.specs.Rules.{file_at}
use Rattle.build.proofs.utc.Goals as goal

pub returns : goal.returns
returns c = λ p. record { means = (c.utc-zone.ensures (file_at p 0 0)).0; opened = (c.utc-zone.ensures (file_at p 0 0)).1 }
