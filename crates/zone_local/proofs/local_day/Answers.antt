-- `zone_local::local_day` meets its contract. Assumes nothing.
use native.Mathlib.Omega.{arith}
use Rattle.laws_calendar.specs.Numbers.{gives-on, bits_is}
use Rattle.zone_local.proofs.Facts.{local-is}
use Rattle.zone_local.proofs.local_day.Goals as goal

pub returns : goal.returns
returns c = (gives-on c.day_at.type_inv c.day_at.ensures (local-is _ _ _ _ c.requires.1.ns c.run_at-run.ensures.0), bits_is c.day_at.ensures (omega (arith, c.requires.1.high)))
