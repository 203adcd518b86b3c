-- `build::read_rules` meets its contract. Assumes nothing.
use Rattle.build.specs.Read.{Long, LooksUp, zone_meant}
use Rattle.build.proofs.Loop.{Reading}
use Rattle.build.proofs.read_rules.Given as goal

abbrev pub invariant-loop-i : goal.invariant-loop-i
invariant-loop-i l = Reading l.book l.pack (zone_meant l.pack l.d) l.i l.s × Long l.s × LooksUp l.book l.pack l.k
